-- A session over an abstract machine: steps that add an entry, calls that add none, refusals, and steps back. Its moments have two parts: the
-- core that a step changes and its entry brings back, and the entries of the steps that stand.
use Rattle.std.specs.Prelude.{◌≡◌, List, [], ◌∷◌, map, ℕ, zero, suc, drop, get_or}

-- what a call did: took a step, was refused, or looked without adding an entry
pub data Kind : Type 0 where
  stepped refused looked : Kind

-- a core and the entries of the steps that stand, newest first
pub record Moment (C E : Type 0) : Type 0 where
  pub core : C
  pub entries : List E

-- the machine: what a call does at a moment, and how its entry is undone
pub record Machine : Type 1 where
  pub C : Type 0
  pub E : Type 0
  pub K : Type 0
  pub A : Type 0
  pub kind : K → Moment C E → Kind
  pub next : K → C → C
  pub entry : K → C → E
  pub answer : K → Moment C E → A
  pub undo : E → C → C

-- what a machine's session rests on: `Fit` is what every moment of it has, from its first on, and a step taken is undone by its entry
pub record Lawful (M : Machine) : Type 1 where
  pub Fit : Moment M.C M.E → Type 0
  pub keeps : (k : M.K) (s : Moment M.C M.E)
      → Fit s → M.kind k s ≡ stepped → Fit (record { core = M.next k s.core; entries = M.entry k s.core ∷ s.entries })
  pub undoes : (k : M.K) (s : Moment M.C M.E)
      → Fit s → M.kind k s ≡ stepped → M.undo (M.entry k s.core) (M.next k s.core) ≡ s.core

module _ (M : Machine) where
  abbrev pub Now : Type 0
  Now = Moment M.C M.E

  -- the moment after a call of a kind
  abbrev pub after : Kind → M.K → Now → Now
  after stepped k s = record { core = M.next k s.core; entries = M.entry k s.core ∷ s.entries }
  after refused k s = s
  after looked k s = s

  abbrev pub does : M.K → Now → Now
  does k s = after (M.kind k s) k s

  -- step back over entries es, from the core c; with none it is refused
  abbrev pub back_from : List M.E → M.C → Now
  back_from [] c = record { core = c; entries = [] }
  back_from (e ∷ es) c = record { core = M.undo e c; entries = es }

  abbrev pub back : Now → Now
  back s = back_from s.entries s.core

  -- k steps back
  abbrev pub backs : ℕ → Now → Now
  backs zero s = s
  backs (suc k) s = backs k (back s)

  -- a line of a session's log
  pub data Done : Type 0 where
    did : M.K → M.A → Done
    saw : M.K → M.A → Done
    not : M.K → M.A → Done
    undid : Done

  -- the log l, newest first, leads from s₀ to s, with the answers that it has
  pub data Ran (s₀ : Now) : List Done → Now → Type 0 where
    start : Ran s₀ [] s₀
    and_did : {l : List Done} {k : M.K} {a : M.A} {s s' : Now}
        → Ran s₀ l s → M.kind k s ≡ stepped → a ≡ M.answer k s → s' ≡ after stepped k s → Ran s₀ (did k a ∷ l) s'
    and_saw : {l : List Done} {k : M.K} {a : M.A} {s : Now}
        → Ran s₀ l s → M.kind k s ≡ looked → a ≡ M.answer k s → Ran s₀ (saw k a ∷ l) s
    and_not : {l : List Done} {k : M.K} {a : M.A} {s : Now}
        → Ran s₀ l s → M.kind k s ≡ refused → a ≡ M.answer k s → Ran s₀ (not k a ∷ l) s
    and_undid : {l : List Done} {e : M.E} {es : List M.E} {s s' : Now}
        → Ran s₀ l s → s.entries ≡ e ∷ es → s' ≡ back_from (e ∷ es) s.core → Ran s₀ (undid ∷ l) s'

  -- a step that stands: its call, and the moment that it was taken at
  pub record Standing : Type 0 where
    pub call : M.K
    pub was : Now

  -- the steps of a run that stand, newest first: a step back takes the newest away
  unfoldable pub stood : {s₀ s : Now} {l : List Done} → Ran s₀ l s → List Standing
  stood start = []
  stood (and_did {k = k} {s = s} r kd an st) = record { call = k; was = s } ∷ stood r
  stood (and_saw r kd an) = stood r
  stood (and_not r kd an) = stood r
  stood (and_undid r q st) = drop 1 (stood r)

  -- the entry of a step that stands
  abbrev pub entry_of : Standing → M.E
  entry_of x = M.entry x.call x.was.core

  -- "the state, memory and reel that stood before the earliest of those k": of a run to s, the moment before its k newest steps that stand
  abbrev pub before : {s₀ s : Now} {l : List Done} → Ran s₀ l s → ℕ → Now
  before {s = s} r k = get_or (s ∷ map (λ x. x.was) (stood r)) k s

  -- what is left when the newest step of a struck log is struck, with all that stands above it
  abbrev pub pop : List Done → List Done
  pop [] = []
  pop (did k a ∷ l) = l
  pop (saw k a ∷ l) = pop l
  pop (not k a ∷ l) = pop l
  pop (undid ∷ l) = pop l

  -- each step back is struck together with the step it removed, what stands between, and every refusal
  abbrev pub strike : List Done → List Done
  strike [] = []
  strike (did k a ∷ l) = did k a ∷ strike l
  strike (saw k a ∷ l) = saw k a ∷ strike l
  strike (not k a ∷ l) = strike l
  strike (undid ∷ l) = pop (strike l)

  -- a log with no step back and no refusal
  pub data Clean : List Done → Type 0 where
    none : Clean []
    one_did : {l : List Done} {k : M.K} {a : M.A} → Clean l → Clean (did k a ∷ l)
    one_saw : {l : List Done} {k : M.K} {a : M.A} → Clean l → Clean (saw k a ∷ l)
