-- "The listing's X line gets a second field: K, N, I, P or C." (02, [4]): the letter of each fault, as a number of ASCII.
use Rattle.std.specs.Prelude.{ℕ}
use Rattle.tape.specs.declared.BlockFault.{BlockFault}
use Rattle.tape.specs.declared.BlockFault.TheVariants as fault

unfoldable pub letter_of : BlockFault → ℕ
letter_of fault.Kind = 75
letter_of fault.Length = 78
letter_of fault.Index = 73
letter_of fault.Padding = 80
letter_of fault.Check = 67
