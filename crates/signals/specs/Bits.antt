-- XST0 and XST3, each bit by its number. (01, the message paragraph)
use Rattle.std.specs.Prelude.{ℕ, ◌^◌}

-- bit n of a word
abbrev pub bit : ℕ → ℕ
bit n = 2 ^ n

-- "XST0: TMK 15, RLS 14, LET 13, RLL 12, WLE 11, NEF 10, ILC 9, ILA 8, MOT 7, ONL 6, IE 5, VCK 4, PED 3 (always 1), WLK 2, BOT 1, EOT 0"
abbrev pub TMK : ℕ
TMK = bit 15

abbrev pub RLS : ℕ
RLS = bit 14

abbrev pub LET : ℕ
LET = bit 13

abbrev pub RLL : ℕ
RLL = bit 12

abbrev pub WLE : ℕ
WLE = bit 11

abbrev pub NEF : ℕ
NEF = bit 10

abbrev pub ILC : ℕ
ILC = bit 9

abbrev pub ILA : ℕ
ILA = bit 8

abbrev pub MOT : ℕ
MOT = bit 7

abbrev pub ONL : ℕ
ONL = bit 6

abbrev pub IE : ℕ
IE = bit 5

abbrev pub VCK : ℕ
VCK = bit 4

abbrev pub PED : ℕ
PED = bit 3

abbrev pub WLK : ℕ
WLK = bit 2

abbrev pub BOT : ℕ
BOT = bit 1

abbrev pub EOT : ℕ
EOT = bit 0

-- "XST3: OPI 6, REV 5, .. RIB 0"
abbrev pub OPI : ℕ
OPI = bit 6

abbrev pub REV : ℕ
REV = bit 5

abbrev pub RIB : ℕ
RIB = bit 0
