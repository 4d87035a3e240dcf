-- `move_tape` meets its contract: an arm for each command.
use Rattle.commands.specs.Commands.{motion_of_under}
use Rattle.commands.proofs.carried.move_tape.Goals as goal

pub space-requires : goal.space-requires
space-requires c = c.requires

pub space-requires-in-RecordsReverse : goal.space-requires-in-RecordsReverse
space-requires-in-RecordsReverse c = c.requires

pub space-requires-in-MarksForward : goal.space-requires-in-MarksForward
space-requires-in-MarksForward c = c.requires

pub space-requires-in-MarksReverse : goal.space-requires-in-MarksReverse
space-requires-in-MarksReverse c = c.requires

pub returns-in-ReadNext : goal.returns-in-ReadNext
unfolding motion_of_under
returns-in-ReadNext c = rw (c.in-ReadNext.is, ← c.asked_buffer-buffer.ensures) c.read_one.ensures

pub returns-in-ReadPrevious : goal.returns-in-ReadPrevious
unfolding motion_of_under
returns-in-ReadPrevious c = rw (c.in-ReadPrevious.is, ← c.asked_buffer-buffer.ensures) c.read_one-in-ReadPrevious.ensures

pub returns-in-RereadPrevious : goal.returns-in-RereadPrevious
unfolding motion_of_under
returns-in-RereadPrevious c = rw (c.in-RereadPrevious.is, ← c.asked_buffer-buffer.ensures) c.reread_one.ensures

pub returns-in-RereadNext : goal.returns-in-RereadNext
unfolding motion_of_under
returns-in-RereadNext c = rw (c.in-RereadNext.is, ← c.asked_buffer-buffer.ensures) c.reread_one-in-RereadNext.ensures

pub returns-in-WriteCharacteristics : goal.returns-in-WriteCharacteristics
unfolding motion_of_under
returns-in-WriteCharacteristics c = rw (c.in-WriteCharacteristics.is, c.rest-here.ensures, c.plain_end.ensures)

pub returns-in-Write : goal.returns-in-Write
unfolding motion_of_under
returns-in-Write c = rw (c.in-Write.is, ← c.lay_here-record.ensures) c.lay.ensures

pub returns-in-WriteRetry : goal.returns-in-WriteRetry
unfolding motion_of_under
returns-in-WriteRetry c = rw (c.in-WriteRetry.is, ← c.lay_here-record.ensures) c.lay-in-WriteRetry.ensures

pub returns-in-RecordsForward : goal.returns-in-RecordsForward
unfolding motion_of_under
returns-in-RecordsForward c = rw c.in-RecordsForward.is c.space.ensures

pub returns-in-RecordsReverse : goal.returns-in-RecordsReverse
unfolding motion_of_under
returns-in-RecordsReverse c = rw c.in-RecordsReverse.is c.space-in-RecordsReverse.ensures

pub returns-in-MarksForward : goal.returns-in-MarksForward
unfolding motion_of_under
returns-in-MarksForward c = rw c.in-MarksForward.is c.space-in-MarksForward.ensures

pub returns-in-MarksReverse : goal.returns-in-MarksReverse
unfolding motion_of_under
returns-in-MarksReverse c = rw c.in-MarksReverse.is c.space-in-MarksReverse.ensures

pub returns-in-Rewind : goal.returns-in-Rewind
unfolding motion_of_under
returns-in-Rewind c = rw (c.in-Rewind.is, c.rest-start.ensures, c.plain_end-2.ensures)

pub returns-in-WriteMark : goal.returns-in-WriteMark
unfolding motion_of_under
returns-in-WriteMark c = rw (c.in-WriteMark.is, ← c.lay_here-mark.ensures) c.lay-in-WriteMark.ensures

pub returns-in-Erase : goal.returns-in-Erase
unfolding motion_of_under
returns-in-Erase c = rw (c.in-Erase.is, ← c.lay_here-gap.ensures) c.lay-in-Erase.ensures

pub returns-in-MarkRetry : goal.returns-in-MarkRetry
unfolding motion_of_under
returns-in-MarkRetry c = rw (c.in-MarkRetry.is, ← c.lay_here-mark.ensures) c.lay-in-MarkRetry.ensures

pub returns-in-Release : goal.returns-in-Release
unfolding motion_of_under
returns-in-Release c = rw (c.in-Release.is, c.rest-here.ensures, c.plain_end.ensures)

pub returns-in-Unload : goal.returns-in-Unload
unfolding motion_of_under
returns-in-Unload c = rw (c.in-Unload.is, c.rest-here.ensures, c.plain_end.ensures)

pub returns-in-Clean : goal.returns-in-Clean
unfolding motion_of_under
returns-in-Clean c = rw (c.in-Clean.is, c.rest-here.ensures, c.plain_end.ensures)

pub returns-in-Initialize : goal.returns-in-Initialize
unfolding motion_of_under
returns-in-Initialize c = rw (c.in-Initialize.is, c.rest-here.ensures, c.plain_end.ensures)

pub returns-in-GetStatus : goal.returns-in-GetStatus
unfolding motion_of_under
returns-in-GetStatus c = rw (c.in-GetStatus.is, c.rest-here.ensures, c.plain_end.ensures)
