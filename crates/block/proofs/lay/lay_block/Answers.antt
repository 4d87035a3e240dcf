-- `lay_block` meets its contract: its six stores are the runs that come to the block.
use Rattle.lists.specs.Places.{gathered}
use Rattle.lists.proofs.Placed.{length_gathered}
use Rattle.block.proofs.Laid.{block_laid, body_laid}
use Rattle.block.proofs.lay.lay_block.Goals as goal

pub returns : goal.returns
returns c =
    let bytes = gathered c.args.swb c.args.mem.now c.args.a in
    let lengths = length_gathered c.args.swb c.args.mem.now c.args.a in
    let long = c.requires.0 in
    let low = c.requires.4 in
    block_laid c.args.b.now _ _ (bytes c.args.used) _ _ _ _ long (rw lengths low) (body_laid _ _ _ _ _ _ _ _ _ _ bytes lengths long low c.put_word.ensures c.put_word-2.ensures c.put_word-3.ensures c.gather.ensures (c.fill.ensures.after (λ y h. h))) c.check_word-check.ensures c.put_word-4.ensures
