-- `set_field` meets its contract, for each field: the numbers of what it made are those that were wanted, and a session comes back from its numbers.
use mathlib.Core.Path.{sym, refl, ◌∙◌}
use mathlib.Core.Bool.{not}
use native.Mathlib.Omega.{arith}
use lib.Dec.{eqb}
use Rattle.lines.specs.Arranging.{number_of}
use Rattle.results.specs.Fields.{fields_of, low_of, session_with, unit_with}
use Rattle.results.proofs.Numbered.{low_same, session_back, told}
use Rattle.results.proofs.fields.set_field.Goals as goal

pub returns-in-Position : goal.returns-in-Position
unfolding fields_of number_of
returns-in-Position c = rw c.in-Position.is (sym (session_back _ c.requires.address c.requires.length))

pub returns-in-End : goal.returns-in-End
unfolding fields_of number_of
returns-in-End c = rw c.in-End.is (sym (session_back _ c.requires.address c.requires.length))

pub returns-in-Pointer : goal.returns-in-Pointer
unfolding fields_of number_of
returns-in-Pointer c = rw c.in-Pointer.is (sym (session_back _ c.requires.address c.requires.length))

pub returns-in-Class : goal.returns-in-Class
unfolding fields_of number_of
returns-in-Class c = rw c.in-Class.is (sym (session_back _ c.requires.address c.requires.length))

pub returns-in-Rmr : goal.returns-in-Rmr
unfolding fields_of session_with unit_with number_of
returns-in-Rmr c = rw c.in-Rmr.is (sym (session_back _ c.requires.address c.requires.length) ∙ rw (told (not (eqb c.args.v 0))) refl)

pub returns-in-Nxm : goal.returns-in-Nxm
unfolding fields_of session_with unit_with number_of
returns-in-Nxm c = rw c.in-Nxm.is (sym (session_back _ c.requires.address c.requires.length) ∙ rw (told (not (eqb c.args.v 0))) refl)

pub returns-in-Nba : goal.returns-in-Nba
unfolding fields_of session_with unit_with number_of
returns-in-Nba c = rw c.in-Nba.is (sym (session_back _ c.requires.address c.requires.length) ∙ rw (told (not (eqb c.args.v 0))) refl)

pub returns-in-Ssr : goal.returns-in-Ssr
unfolding fields_of session_with unit_with number_of
returns-in-Ssr c = rw c.in-Ssr.is (sym (session_back _ c.requires.address c.requires.length) ∙ rw (told (not (eqb c.args.v 0))) refl)

pub returns-in-Online : goal.returns-in-Online
unfolding fields_of session_with unit_with number_of
returns-in-Online c = rw c.in-Online.is (sym (session_back _ c.requires.address c.requires.length) ∙ rw (told (not (eqb c.args.v 0))) refl)

pub returns-in-Locked : goal.returns-in-Locked
unfolding fields_of session_with unit_with number_of
returns-in-Locked c = rw c.in-Locked.is (sym (session_back _ c.requires.address c.requires.length) ∙ rw (told (not (eqb c.args.v 0))) refl)

pub returns-in-Vck : goal.returns-in-Vck
unfolding fields_of session_with unit_with number_of
returns-in-Vck c = rw c.in-Vck.is (sym (session_back _ c.requires.address c.requires.length) ∙ rw (told (not (eqb c.args.v 0))) refl)

pub returns-in-UnitOwns : goal.returns-in-UnitOwns
unfolding fields_of session_with unit_with number_of
returns-in-UnitOwns c = rw c.in-UnitOwns.is (sym (session_back _ c.requires.address c.requires.length) ∙ rw (told (not (eqb c.args.v 0))) refl)

pub returns-in-Pending : goal.returns-in-Pending
unfolding fields_of session_with unit_with number_of
returns-in-Pending c = rw c.in-Pending.is (sym (session_back _ c.requires.address c.requires.length) ∙ rw (told (not (eqb c.args.v 0))) refl)

pub returns-in-Eai : goal.returns-in-Eai
unfolding fields_of session_with unit_with number_of
returns-in-Eai c = rw c.in-Eai.is (sym (session_back _ c.requires.address c.requires.length) ∙ rw (told (not (eqb c.args.v 0))) refl)

pub returns-in-Ess : goal.returns-in-Ess
unfolding fields_of session_with unit_with number_of
returns-in-Ess c = rw c.in-Ess.is (sym (session_back _ c.requires.address c.requires.length) ∙ rw (told (not (eqb c.args.v 0))) refl)

pub returns-in-Enb : goal.returns-in-Enb
unfolding fields_of session_with unit_with number_of
returns-in-Enb c = rw c.in-Enb.is (sym (session_back _ c.requires.address c.requires.length) ∙ rw (told (not (eqb c.args.v 0))) refl)

pub returns-in-Address : goal.returns-in-Address
unfolding fields_of session_with unit_with number_of
returns-in-Address c = rw c.in-Address.is (sym (session_back _ (omega (arith, c.low-s.type_inv)) c.requires.length) ∙ rw (c.low-s.ensures, low_same (low_of c.args.v) (omega arith)) refl)

pub returns-in-Length : goal.returns-in-Length
unfolding fields_of session_with unit_with number_of
returns-in-Length c = rw c.in-Length.is (sym (session_back _ c.requires.address (omega (arith, c.low-s-in-Length.type_inv))) ∙ rw (c.low-s-in-Length.ensures, low_same (low_of c.args.v) (omega arith)) refl)

pub returns-in-ReleaseIe : goal.returns-in-ReleaseIe
unfolding fields_of session_with unit_with number_of
returns-in-ReleaseIe c = rw c.in-ReleaseIe.is (sym (session_back _ c.requires.address c.requires.length) ∙ rw (told (not (eqb c.args.v 0))) refl)

pub returns-in-Used : goal.returns-in-Used
unfolding fields_of number_of
returns-in-Used c = rw c.in-Used.is (sym (session_back _ c.requires.address c.requires.length))

pub returns-in-Objects : goal.returns-in-Objects
unfolding fields_of number_of
returns-in-Objects c = rw c.in-Objects.is (sym (session_back _ c.requires.address c.requires.length))

pub returns-in-Memory : goal.returns-in-Memory
unfolding fields_of number_of
returns-in-Memory c = rw c.in-Memory.is (sym (session_back _ c.requires.address c.requires.length))

pub returns-in-Blocks : goal.returns-in-Blocks
unfolding fields_of number_of
returns-in-Blocks c = rw c.in-Blocks.is (sym (session_back _ c.requires.address c.requires.length))

pub returns-in-Journal : goal.returns-in-Journal
unfolding fields_of number_of
returns-in-Journal c = rw c.in-Journal.is (sym (session_back _ c.requires.address c.requires.length))
