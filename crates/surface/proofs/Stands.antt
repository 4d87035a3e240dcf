-- Going back k gives a host the bytes that it held before the earliest of the k newest steps that stand.
use mathlib.Core.List.{List, [], ◌∷◌, map}
use mathlib.Core.Path.{◌≡◌, refl, sym, ap, subst, ◌∙◌}
use Prim.Native.Nat.{ℕ, zero, suc, ◌≤◌}
use native.Mathlib.Omega.{arith}
use lib.ListN.{drop, get_or, length, length-map}
use Rattle.sessions.specs.Session.{Kind, Standing, backs, before, entry_of, looked, refused, stepped, stood}
use Rattle.sessions.specs.Session as session
use Rattle.sessions.specs.Calling.{Call, Here, Noted, call_kind, calls, kind_now, world_from}
use Rattle.sessions.proofs.Calls.{entry_each, lawful}
use Rattle.sessions.proofs.Stood.{went_to}
use Rattle.sessions.proofs.Striking.{goes_back}
use Rattle.ts11.specs.Given.{Host, back_given}
use Rattle.surface.specs.Hosting.{AtMoment, Begins, Hosted, Line, Returned, Unchanged, WentBack, and_back, and_made, back, begun, first, given, hosts_stood, no_step, one_more}
use Rattle.surface.specs.Following.{Follows}
use Rattle.surface.proofs.Goes.{world_bytes}
use Rattle.surface.proofs.Hosts.{back_by, back_empty, call_at, host_ran, made_by, same_kind}

module _ (n : ℕ) where
  -- each of the hosts is at the moment that its step was taken at
  data Paired : List Host → List (Standing (calls n)) → Type 0 where
    no_pair : Paired [] []
    and_pair : {h : Host} {x : Standing (calls n)} {hs : List Host} {xs : List (Standing (calls n))} → AtMoment n x.was h → Paired hs xs → Paired (h ∷ hs) (x ∷ xs)

  -- as many hosts as steps
  paired_long : {hs : List Host} {xs : List (Standing (calls n))} → Paired hs xs → length hs ≡ length xs
  paired_long no_pair = refl
  paired_long (and_pair a p) = ap suc (paired_long p)

  -- without the newest
  paired_rest : {hs : List Host} {xs : List (Standing (calls n))} → Paired hs xs → Paired (drop 1 hs) (drop 1 xs)
  paired_rest no_pair = no_pair
  paired_rest (and_pair a p) = p

  -- where there is none to take away
  paired_none : {hs : List Host} {xs : List (Standing (calls n))} → length xs ≡ 0 → Paired hs xs → Paired (drop 1 hs) xs
  paired_none e no_pair = no_pair
  paired_none e (and_pair a p) = absurd (omega arith)

  -- the k-th host from h on is at the k-th moment from s on
  paired_at : (k : ℕ) {h : Host} {s : Here} {hs : List Host} {xs : List (Standing (calls n))} (h' : Host) (s' : Here)
      → AtMoment n s h → Paired hs xs → k ≤ length hs → AtMoment n (get_or (s ∷ map (λ x. x.was) xs) k s') (get_or (h ∷ hs) k h')
  paired_at zero h' s' a p z = a
  paired_at (suc k) h' s' a no_pair z = absurd (omega arith)
  paired_at (suc k) h' s' a (and_pair b p) z = paired_at k h' s' b p (omega arith)

module _ {h₀ : Host} (s : Begins h₀) where
  abbrev n : ℕ
  n = length h₀.journal

  -- as many steps stand as the moment has entries
  many : {d : List Line} {h : Host} (f : Follows n (first h₀) d h) → length f.moment.entries ≡ length (stood (calls n) f.ran)
  many f = ap length (entry_each n s.fresh f.ran) ∙ length-map (stood (calls n) f.ran) (entry_of (calls n))

  -- a call adds the host that it was made from, where it takes a step
  made_paired : {d : List Line} {h h' : Host} {k : ℕ} (c : Call) (r : Hosted h₀ d h) (g : Returned h (given c h) k h') (f : Follows n (first h₀) d h) (z : Kind) (t : kind_now n c f.moment ≡ z) (a : AtMoment n (session.after (calls n) z c f.moment) h')
      → call_kind c (given c h).answer ≡ z → Paired n (hosts_stood r) (stood (calls n) f.ran) → Paired n (hosts_stood (and_made c r g)) (stood (calls n) (made_by f c g z t a).ran)
  unfolding hosts_stood stood made_by
  made_paired c r g f stepped t a e p = rw e (and_pair f.here p)
  made_paired c r g f refused t a e p = rw e p
  made_paired c r g f looked t a e p = rw e p

  -- a step back takes the newest away, where there is one
  back_paired : {d : List Line} {h h' : Host} {k : ℕ} (r : Hosted h₀ d h) (g : Returned h (back_given h) k h') (f : Follows n (first h₀) d h) (es : List Noted) (q : f.moment.entries ≡ es)
      → Paired n (hosts_stood r) (stood (calls n) f.ran) → Paired n (hosts_stood (and_back r g)) (stood (calls n) (back_by f s.fresh g es q).ran)
  unfolding hosts_stood stood back_by goes_back
  back_paired r g f [] q p = paired_none n (sym (many f) ∙ ap length q) p
  back_paired r g f (e ∷ es) q p = paired_rest n p

  -- the hosts that stood before the steps that stand are at the moments of the session's steps that stand
  paired : {d : List Line} {h : Host} (r : Hosted h₀ d h) → Paired n (hosts_stood r) (stood (calls n) (host_ran s r).ran)
  unfolding hosts_stood stood host_ran
  paired begun = no_pair
  paired (and_made c r g) =
      let f = host_ran s r in
      made_paired c r g f (kind_now n c f.moment) refl (call_at f c g) (same_kind f c g) (paired r)
  paired (and_back r g) =
      let f = host_ran s r in
      back_paired r g f f.moment.entries refl (paired r)

  -- a step back that returns 0 goes on with the log, to where the model's leads
  gone_back : {d : List Line} {h h' : Host} (f : Follows n (first h₀) d h) (g : Returned h (back_given h) 0 h') (es : List Noted) → f.moment.entries ≡ es
      → (f' : Follows n (first h₀) (back 0 ∷ d) h') × (f'.moment ≡ session.back (calls n) f.moment)
  unfolding back_by
  gone_back f g [] q = absurd (let z : ◌≡◌ {A = ℕ} 0 6 = (back_empty f s.fresh g q).0 in omega arith)
  gone_back f g (e ∷ es) q = (back_by f s.fresh g (e ∷ es) q, refl)

  -- and so do k of them
  went_at : {d : List Line} {h h' : Host} {k : ℕ} (f : Follows n (first h₀) d h) → WentBack k h h' → AtMoment n (backs (calls n) k f.moment) h'
  went_at f no_step = f.here
  went_at {h' = h'} f (one_more {k = k} g w) =
      let x = gone_back f g f.moment.entries refl in
      subst (λ (t : Here). AtMoment n (backs (calls n) k t) h') x.1 (went_at x.0 w)

-- one host that stood for each entry
pub host_stands : {h₀ h : Host} {d : List Line} → (s : Begins h₀) → (r : Hosted h₀ d h) → length (hosts_stood r) ≡ length (host_ran s r).moment.entries
host_stands {h₀} s r = paired_long (length h₀.journal) (paired s r) ∙ sym (many s (host_ran s r))

-- going back k gives a host the bytes that it held before the earliest of those k steps
pub host_stood : {h₀ h h' : Host} {d : List Line} {k : ℕ} → Begins h₀ → (r : Hosted h₀ d h) → k ≤ length (hosts_stood r) → WentBack k h h' → Unchanged (get_or (h ∷ hosts_stood r) k h) h'
host_stood {h₀} {h} {k = k} s r z w =
    let n : ℕ = length h₀.journal in
    let f : Follows n (first h₀) _ h = host_ran s r in
    let long : length (hosts_stood r) ≡ length (stood (calls n) f.ran) = paired_long n (paired s r) in
    let there : backs (calls n) k f.moment ≡ before (calls n) f.ran k = went_to (calls n) (lawful n) s.fresh.good s.fresh.none f.ran k (omega arith) in
    let x = went_at s f w in
    let y = paired_at n k h f.moment f.here (paired s r) z in
    world_bytes y.block x.block (sym x.world ∙ ap (world_from n) there ∙ y.world)
