-- A choice by a test: every definition by cases is written with it.
use Rattle.std.specs.Prelude.{Bool, true, false}

abbrev pub pick : {A : Type 0} → Bool → A → A → A
pick true a b = a
pick false a b = b

-- a fact that always holds: the prelude's one-point type, whose name is the unit's state's everywhere else
abbrev pub Always : Type 0
Always = Unit {0}
