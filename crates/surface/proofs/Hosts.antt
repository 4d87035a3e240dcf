-- A host's calls are a session of the model: what holds of any session holds of the bytes that a host holds.
use mathlib.Core.List.{List, [], ◌∷◌}
use mathlib.Core.Path.{◌≡◌, refl, sym, ap, ◌∙◌}
use Prim.Native.Nat.{ℕ}
use lib.ListN.{length}
use Rattle.state.specs.Refusals.{refusal_number}
use Rattle.commands.specs.Answers.{number_of}
use Rattle.worlds.specs.Worlds.{Answered, World}
use Rattle.worlds.specs.Calls.{back_on}
use Rattle.sessions.specs.Session.{Kind, after, and_did, and_not, and_saw, does, looked, refused, start, stepped, undid}
use Rattle.sessions.specs.Session as session
use Rattle.sessions.specs.Calling.{Call, Here, Noted, call_kind, calls, kind_now, on_call, world_from}
use Rattle.sessions.specs.Good.{Fresh}
use Rattle.sessions.proofs.Calls.{back_does, back_none, does_that}
use Rattle.sessions.proofs.Striking.{goes_back}
use Rattle.ts11.specs.Given.{Host, back_given, world_in}
use Rattle.surface.specs.Hosting.{AtMoment, Begins, Hosted, Line, Returned, and_back, and_made, back, begun, first, given, made}
use Rattle.surface.specs.Following.{Follows, a_back, a_look, a_refusal, a_step, no_back, none}
use Rattle.surface.proofs.Runs.{given_is, runs_as}
use Rattle.surface.proofs.Backs.{back_as, back_is}

module _ {n : ℕ} {s₀ : Here} {d : List Line} {h : Host} (f : Follows n s₀ d h) where
  abbrev was : World
  was = world_from n f.moment

  module _ {h' : Host} {k : ℕ} (c : Call) (g : Returned h (given c h) k h') where
    same : on_call (length h.journal) c (world_in h) ≡ on_call n c was
    same = ap (λ (i : ℕ). on_call i c (world_in h)) f.here.long ∙ ap (on_call n c) (sym f.here.world)

    pub number : k ≡ number_of (on_call n c was).answer
    number = g.gives.answer ∙ ap (λ (x : Answered). number_of x.answer) (given_is c h f.here.block ∙ same)

    -- the exported call takes a step where the session's does
    pub same_kind : call_kind c (given c h).answer ≡ kind_now n c f.moment
    same_kind = ap (λ (x : Answered). call_kind c x.answer) (given_is c h f.here.block ∙ same)

    pub call_at : AtMoment n (does (calls n) c f.moment) h'
    call_at =
        let z = runs_as c h f.here.block g in
        record {
          world = does_that n c f.moment ∙ sym (z.1 ∙ ap (λ (x : Answered). x.world) same);
          block = z.0;
          long = g.long ∙ f.here.long;
        }

    unfoldable pub made_by : (z : Kind) → kind_now n c f.moment ≡ z → AtMoment n (after (calls n) z c f.moment) h' → Follows n s₀ (made c k ∷ d) h'
    made_by stepped t a = record { log = _; moment = after (calls n) stepped c f.moment; ran = and_did f.ran t refl refl; lines = a_step f.lines number; here = a }
    made_by refused t a = record { log = _; moment = f.moment; ran = and_not f.ran t refl; lines = a_refusal f.lines number; here = a }
    made_by looked t a = record { log = _; moment = f.moment; ran = and_saw f.ran t refl; lines = a_look f.lines number; here = a }

  module _ {h' : Host} {k : ℕ} (fresh : Fresh n s₀) (g : Returned h (back_given h) k h') where
    same_back : back_on (world_in h) (length h.journal) ≡ back_on was n
    same_back = ap (back_on (world_in h)) f.here.long ∙ ap (λ (w : World). back_on w n) (sym f.here.world)

    -- a step back that answers x, and leaves the world of the moment s
    back_at : (x : Answered) (s : Here) → back_on was n ≡ x → world_from n s ≡ x.world → (k ≡ number_of x.answer) × AtMoment n s h'
    back_at x s e w =
        let z = back_as h f.here.block g in
        let is = same_back ∙ e in (
          g.gives.answer ∙ ap (λ (y : Answered). number_of y.answer) (back_is h f.here.block ∙ is),
          record {
            world = w ∙ sym (z.1 ∙ ap (λ (y : Answered). y.world) is);
            block = z.0;
            long = g.long ∙ f.here.long;
          },
        )

    -- it leads where the model's leads
    pub back_one : {e : Noted} {es : List Noted} → f.moment.entries ≡ e ∷ es → (k ≡ 0) × AtMoment n (session.back (calls n) f.moment) h'
    unfolding number_of
    back_one q = back_at _ _ (back_does n fresh f.ran q) refl

    -- and where no entry stands it is refused with 6
    pub back_empty : f.moment.entries ≡ [] → (k ≡ 6) × AtMoment n f.moment h'
    unfolding number_of refusal_number
    back_empty q = back_at _ _ (back_none n fresh f.ran q) refl

    unfoldable pub back_by : (es : List Noted) → f.moment.entries ≡ es → Follows n s₀ (back k ∷ d) h'
    back_by [] q =
        let z = back_empty q in
        record { log = f.log; moment = f.moment; ran = f.ran; lines = no_back f.lines z.0; here = z.1 }
    back_by (e ∷ es) q =
        let z = back_one q in
        record { log = undid ∷ f.log; moment = session.back (calls n) f.moment; ran = goes_back (calls n) q f.ran; lines = a_back f.lines z.0; here = z.1 }

-- a host's run is a session
unfoldable pub host_ran : {h₀ h : Host} {d : List Line} → Begins h₀ → Hosted h₀ d h → Follows (length h₀.journal) (first h₀) d h
host_ran {h₀} s begun = record { log = []; moment = first h₀; ran = start; lines = none; here = s.here }
host_ran {h₀} s (and_made c r g) =
    let f = host_ran s r in
    made_by f c g (kind_now (length h₀.journal) c f.moment) refl (call_at f c g)
host_ran s (and_back r g) =
    let f = host_ran s r in
    back_by f s.fresh g f.moment.entries refl
