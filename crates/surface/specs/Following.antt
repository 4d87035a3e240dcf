-- A host's log beside a session's, and what it is for the one to follow the other.
use Rattle.std.specs.Prelude.{List, [], ◌∷◌, ◌≡◌, ℕ}
use Rattle.commands.specs.Answers.{number_of}
use Rattle.sessions.specs.Session.{Done, Ran, did, not, saw, strike, undid}
use Rattle.sessions.specs.Calling.{Call, Here, Said, calls}
use Rattle.ts11.specs.Given.{Host}
use Rattle.surface.specs.Hosting.{AtMoment, Line, back, made}

module _ (n : ℕ) where
  -- the host's lines and the session's, newest first: each call with the number of its answer. A step back returns 0, or 6, and then the
  -- session has no line of it.
  pub data Logs : List Line → List (Done (calls n)) → Type 0 where
    none : Logs [] []
    a_step : {d : List Line} {l : List (Done (calls n))} {c : Call} {a : Said} {k : ℕ} → Logs d l → k ≡ number_of a.answer → Logs (made c k ∷ d) (did c a ∷ l)
    a_look : {d : List Line} {l : List (Done (calls n))} {c : Call} {a : Said} {k : ℕ} → Logs d l → k ≡ number_of a.answer → Logs (made c k ∷ d) (saw c a ∷ l)
    a_refusal : {d : List Line} {l : List (Done (calls n))} {c : Call} {a : Said} {k : ℕ} → Logs d l → k ≡ number_of a.answer → Logs (made c k ∷ d) (not c a ∷ l)
    a_back : {d : List Line} {l : List (Done (calls n))} {k : ℕ} → Logs d l → k ≡ 0 → Logs (back k ∷ d) (undid ∷ l)
    no_back : {d : List Line} {l : List (Done (calls n))} {k : ℕ} → Logs d l → k ≡ 6 → Logs (back k ∷ d) l

  -- the log d led a host to h as a session of the model leads from its beginning s₀
  pub record Follows (s₀ : Here) (d : List Line) (h : Host) : Type 0 where
    pub log : List (Done (calls n))
    pub moment : Here
    pub ran : Ran (calls n) s₀ log moment
    pub lines : Logs d log
    pub here : AtMoment n moment h

-- the lines of a host's session that stand: each step back is struck together with the step that it removed
abbrev pub stands : {n : ℕ} {s₀ : Here} {d : List Line} {h : Host} → Follows n s₀ d h → List (Done (calls n))
stands {n} f = strike (calls n) f.log
