-- A transport and its record are one another's: the transport comes back from its record, and a record's numbers are those of the transport that it is read as.
use mathlib.Core.Path.{◌≡◌, refl, sym, ap, ap₂, ◌∙◌}
use mathlib.Core.Bool.{true}
use mathlib.Core.List.{List, [], ◌∷◌, ◌++◌}
use Prim.Native.Nat.{ℕ, ◌<◌}
use lib.ListN.{length}
use Rattle.lists.specs.Fours.{number_limit}
use Rattle.entries.specs.Numbers.{nth, state_numbers, unit_in}
use Rattle.entries.proofs.Back.{low, told}
use Rattle.entries.proofs.Own.{all_elements, elements, flags_of, number, state_own}
use Rattle.worlds.specs.Rows.{unit_over}
use Rattle.worlds.specs.declared.Transport.{Transport}
use Rattle.records.specs.Records.{SmallTransport, is_record, numbers_of, record_count, transport_in}

pub length_record : (t : Transport) → length (numbers_of t) ≡ record_count
unfolding numbers_of state_numbers
length_record t = refl

-- what a transport's record is read as
pub transport_back : (t : Transport) → SmallTransport t → transport_in (numbers_of t) ≡ t
unfolding numbers_of state_numbers transport_in unit_in
transport_back t h =
    let r = t.registers in
    let p = t.panel in
    let a = t.attention in
    let k = t.characteristics in
    rw (
      low _ h.position,
      low _ h.end,
      low _ h.pointer,
      low _ h.class,
      told r.rmr,
      told r.nxm,
      told r.nba,
      told r.ssr,
      told p.online,
      told p.locked,
      told p.vck,
      told a.unit_owns,
      told a.pending,
      told a.release_ie,
      told k.eai,
      told k.ess,
      told k.enb,
      low _ h.blocks,
      low _ h.objects,
    )

pub record_is : (t : Transport) → is_record (numbers_of t) ≡ true
unfolding is_record numbers_of
record_is t = flags_of (unit_over 0 t) _

-- what numbers of four bytes are read as has numbers of at most four bytes
pub small_in : (n : List ℕ) → ((i : ℕ) → nth n i < number_limit) → SmallTransport (transport_in n)
unfolding transport_in unit_in
small_in n s =
    record {
      position = s 0;
      end = s 1;
      pointer = s 2;
      class = s 3;
      blocks = s 19;
      objects = s 20;
    }

module _ (n : List ℕ) (small : (i : ℕ) → nth n i < number_limit) where
  each_own : is_record n ≡ true → numbers_of (transport_in n) ≡ elements (nth n) 0 record_count
  unfolding is_record numbers_of transport_in unit_in
  each_own r = ap₂ (λ (x y : List ℕ). x ++ y) (state_own n small _ r) (λ i. number n small 19 i ∷ number n small 20 i ∷ [])

  -- a record's numbers are those of the transport that it is read as
  pub record_own : is_record n ≡ true → length n ≡ record_count → numbers_of (transport_in n) ≡ n
  record_own r long = each_own r ∙ ap (elements (nth n) 0) (sym long) ∙ all_elements n

-- so two records that are read as one transport are one
pub same_record : (n k : List ℕ) → ((i : ℕ) → nth n i < number_limit) → ((i : ℕ) → nth k i < number_limit) → is_record n ≡ true → is_record k ≡ true → length n ≡ record_count → length k ≡ record_count → transport_in n ≡ transport_in k → n ≡ k
same_record n k s t h j l m e = sym (record_own n s h l) ∙ ap numbers_of e ∙ record_own k t j m
