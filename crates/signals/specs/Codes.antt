-- "Commands (code / mode)" (01): a line for each code, and none for all else.
use Rattle.std.specs.Prelude.{Option, Some, None, ℕ, ◌==◌}
use Rattle.lists.specs.Pick.{pick}
use Rattle.signals.specs.declared.codes.Command.{Command}
use Rattle.signals.specs.declared.codes.Command.TheVariants as command

-- "Read 1 / 0 next, 1 previous, 2 reread previous, 3 reread next."
unfoldable pub read_mode : ℕ → Option Command
read_mode mode =
    pick (mode == 0) (Some command.ReadNext)
    (pick (mode == 1) (Some command.ReadPrevious)
    (pick (mode == 2) (Some command.RereadPrevious)
    (pick (mode == 3) (Some command.RereadNext) None)))

-- "Write Characteristics 4/0." "Initialize 11/0" "Get Status 15/0."
unfoldable pub single_mode : Command → ℕ → Option Command
single_mode c mode = pick (mode == 0) (Some c) None

-- "Write 5 / 0, 2 retry."
unfoldable pub write_mode : ℕ → Option Command
write_mode mode = pick (mode == 0) (Some command.Write) (pick (mode == 2) (Some command.WriteRetry) None)

-- "Position 8 / 0, 1 records forward, reverse; 2, 3 marks; 4 rewind."
unfoldable pub position_mode : ℕ → Option Command
position_mode mode =
    pick (mode == 0) (Some command.RecordsForward)
    (pick (mode == 1) (Some command.RecordsReverse)
    (pick (mode == 2) (Some command.MarksForward)
    (pick (mode == 3) (Some command.MarksReverse)
    (pick (mode == 4) (Some command.Rewind) None))))

-- "Format 9 / 0 mark, 1 erase, 2 mark retry."
unfoldable pub format_mode : ℕ → Option Command
format_mode mode =
    pick (mode == 0) (Some command.WriteMark)
    (pick (mode == 1) (Some command.Erase)
    (pick (mode == 2) (Some command.MarkRetry) None))

-- "Control 10 / 0 release, 1 rewind and unload, 2 clean"
unfoldable pub control_mode : ℕ → Option Command
control_mode mode =
    pick (mode == 0) (Some command.Release)
    (pick (mode == 1) (Some command.Unload)
    (pick (mode == 2) (Some command.Clean) None))

unfoldable pub command_of : ℕ → ℕ → Option Command
command_of code mode =
    pick (code == 1) (read_mode mode)
    (pick (code == 4) (single_mode command.WriteCharacteristics mode)
    (pick (code == 5) (write_mode mode)
    (pick (code == 8) (position_mode mode)
    (pick (code == 9) (format_mode mode)
    (pick (code == 10) (control_mode mode)
    (pick (code == 11) (single_mode command.Initialize mode)
    (pick (code == 15) (single_mode command.GetStatus mode) None)))))))

-- and back: a command's code, the number in front of the slash
abbrev pub code_of : Command → ℕ
code_of command.ReadNext = 1
code_of command.ReadPrevious = 1
code_of command.RereadPrevious = 1
code_of command.RereadNext = 1
code_of command.WriteCharacteristics = 4
code_of command.Write = 5
code_of command.WriteRetry = 5
code_of command.RecordsForward = 8
code_of command.RecordsReverse = 8
code_of command.MarksForward = 8
code_of command.MarksReverse = 8
code_of command.Rewind = 8
code_of command.WriteMark = 9
code_of command.Erase = 9
code_of command.MarkRetry = 9
code_of command.Release = 10
code_of command.Unload = 10
code_of command.Clean = 10
code_of command.Initialize = 11
code_of command.GetStatus = 15

-- and its mode, the number in front of its word
abbrev pub mode_of : Command → ℕ
mode_of command.ReadNext = 0
mode_of command.ReadPrevious = 1
mode_of command.RereadPrevious = 2
mode_of command.RereadNext = 3
mode_of command.WriteCharacteristics = 0
mode_of command.Write = 0
mode_of command.WriteRetry = 2
mode_of command.RecordsForward = 0
mode_of command.RecordsReverse = 1
mode_of command.MarksForward = 2
mode_of command.MarksReverse = 3
mode_of command.Rewind = 4
mode_of command.WriteMark = 0
mode_of command.Erase = 1
mode_of command.MarkRetry = 2
mode_of command.Release = 0
mode_of command.Unload = 1
mode_of command.Clean = 2
mode_of command.Initialize = 0
mode_of command.GetStatus = 0
