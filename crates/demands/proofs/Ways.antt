-- An advance goes one of the ways, and whichever way's conditions hold is the one that it goes.
use mathlib.Core.Bool.{◌||◌, ◌&&◌, not}
use mathlib.Core.List.{List}
use mathlib.Core.Path.{◌≡◌, sym, subst, ◌∙◌}
use Prim.Native.Nat.{ℕ, ◌+◌, ◌%◌}
use borrow.Author.Tests.{le-ltb, lt-ltb, ltb-false, ltb-true}
use lib.Dec.{eqb, ltb}
use lib.ListN.{length}
use Rattle.lists.proofs.Cases.{by_test}
use Rattle.signals.specs.Codes.{command_of}
use Rattle.signals.specs.Numbers.{packet_bytes}
use Rattle.state.specs.declared.Unit.{Unit}
use Rattle.commands.specs.declared.plans.Plan.{Plan}
use Rattle.advance.specs.Rules.{has_extent, is_illegal, is_tape, not_executable, not_executable_under, writes}
use Rattle.advance.specs.Steps.{advanced, advanced_under, attended_under, rejected_under, step_attention_under, step_executable_under, step_extent, step_extent_under, step_fetch_under, step_header_under, step_illegal, step_illegal_under, step_no_buffer_under, step_owner, step_owner_under, step_pointer, step_pointer_under, step_volume_under}
use Rattle.demands.specs.Ways.{Begins, Fetched, Runs, Waits, Way, attention, bad_pointer, carried, header, idle, locked, lost, no_buffer, no_extent, no_header, no_words, no_execution, not_mounted, not_owned, packet, started, unknown}

module _ (u : Unit) (m s : List ℕ) where
  -- what each set of conditions leaves to do
  waits_on : Waits u m s → advanced u m s ≡ step_owner u m s (header u m s)
  unfolding advanced_under step_header_under
  waits_on w = rw (w.waiting, le-ltb (length m) (u.registers.pointer + 2) w.within)

  begins_on : Begins u m s → advanced u m s ≡ step_illegal (started u m s) m s (header u m s)
  unfolding step_owner_under step_attention_under step_volume_under
  begins_on b = waits_on b.waits ∙ rw (b.owns, b.quiet)

  fetched_on : Fetched u m s → advanced u m s ≡ step_pointer (started u m s) m s (header u m s) (packet u m s)
  unfolding step_illegal_under step_no_buffer_under step_fetch_under
  fetched_on f = begins_on f.begins ∙ rw (f.known, f.buffer, le-ltb (length m) (u.registers.pointer + packet_bytes) f.words)

  runs_on : Runs u m s → advanced u m s ≡ step_extent (started u m s) m s (header u m s) (packet u m s)
  unfolding step_pointer_under step_executable_under not_executable_under
  runs_on r = fetched_on r.fetched ∙ rw (r.pointer, r.mounted, r.unlocked, r.executable)

  -- under a way's conditions the advance is that way
  pub advanced_is : {q : Plan} → Way u m s q → advanced u m s ≡ q
  unfolding advanced_under step_header_under step_owner_under step_attention_under step_illegal_under step_no_buffer_under step_fetch_under step_pointer_under step_executable_under step_extent_under not_executable_under attended_under rejected_under
  advanced_is (idle a b) = rw (a, b)
  advanced_is (attention a b) = rw (a, b)
  advanced_is (no_header a b) = rw (a, lt-ltb (length m) (u.registers.pointer + 2) b)
  advanced_is (not_owned w a) = waits_on w ∙ rw a
  advanced_is (lost w a b) = waits_on w ∙ rw (a, b)
  advanced_is (unknown b a) = begins_on b ∙ rw a
  advanced_is (no_buffer b a c) = begins_on b ∙ rw (a, c)
  advanced_is (no_words b a c d) = begins_on b ∙ rw (a, c, lt-ltb (length m) (u.registers.pointer + packet_bytes) d)
  advanced_is (bad_pointer f a) = fetched_on f ∙ rw a
  advanced_is (not_mounted f a b) = fetched_on f ∙ rw (a, b)
  advanced_is (locked f a b c) = fetched_on f ∙ rw (a, b, c)
  advanced_is (no_execution f a b c d) = fetched_on f ∙ rw (a, b, c, d)
  advanced_is (no_extent r a) = runs_on r ∙ rw a
  advanced_is (carried r a) = runs_on r ∙ rw a

  -- some way's conditions hold
  fetched_way : Fetched u m s → (q : Plan) × Way u m s q
  fetched_way f =
      by_test ((packet u m s).high || (eqb (header u m s).code 4 && eqb ((packet u m s).pointer % 2) 1))
      (λ a. (_, bad_pointer f a))
      (λ a. by_test (is_tape (header u m s) && (not u.panel.online || (u.panel.vck && not (header u m s).cvc)))
      (λ b. (_, not_mounted f a b))
      (λ b. by_test (writes (header u m s) && u.panel.locked)
      (λ c. (_, locked f a b c))
      (λ c. by_test (not_executable u (header u m s) (packet u m s))
      (λ d. (_, no_execution f a b c d))
      (λ d. let r : Runs u m s = record { fetched = f; pointer = a; mounted = b; unlocked = c; executable = d } in
      by_test (has_extent (header u m s) && ltb (length m) ((packet u m s).pointer + (packet u m s).count))
      (λ e. (_, no_extent r e))
      (λ e. (_, carried r e))))))

  begins_way : Begins u m s → (q : Plan) × Way u m s q
  begins_way b =
      by_test (not (header u m s).plain || is_illegal (command_of (header u m s).code (header u m s).mode))
      (λ a. (_, unknown b a))
      (λ a. by_test (u.registers.nba && not (eqb (header u m s).code 4))
      (λ c. (_, no_buffer b a c))
      (λ c. by_test (ltb (length m) (u.registers.pointer + packet_bytes))
      (λ d. (_, no_words b a c (ltb-true (length m) _ d)))
      (λ d. fetched_way (record { begins = b; known = a; buffer = c; words = ltb-false (length m) _ d }))))

  waits_way : Waits u m s → (q : Plan) × Way u m s q
  waits_way w =
      by_test (u.attention.unit_owns || (header u m s).ack)
      (λ a. by_test u.attention.pending
      (λ b. (_, lost w a b))
      (λ b. begins_way (record { waits = w; owns = a; quiet = b })))
      (λ a. (_, not_owned w a))

  some_way : (q : Plan) × Way u m s q
  some_way =
      by_test u.registers.ssr
      (λ a. by_test (u.attention.pending && u.attention.unit_owns)
      (λ b. (_, attention a b))
      (λ b. (_, idle a b)))
      (λ a. by_test (ltb (length m) (u.registers.pointer + 2))
      (λ b. (_, no_header a (ltb-true (length m) _ b)))
      (λ b. waits_way (record { waiting = a; within = ltb-false (length m) _ b })))

  -- so the advance goes one of them
  pub advanced_way : Way u m s (advanced u m s)
  advanced_way = subst (Way u m s) (sym (advanced_is some_way.1)) some_way.1
