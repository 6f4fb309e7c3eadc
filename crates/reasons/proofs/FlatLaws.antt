-- Document 01's map, the region's bytes, is a map of the promise: its laws, from those of the image.
use mathlib.Core.Path.{◌≡◌, refl, sym, ap, ◌∙◌}
use mathlib.Core.Bool.{true, false}
use mathlib.Core.List.{List, [], ◌∷◌}
use Rattle.std.specs.Prelude.{None, Some}
use Prim.Native.Nat.{ℕ, zero, suc, ◌+◌, ◌*◌, ◌/◌, ◌≤◌, ◌<◌}
use native.Mathlib.Omega.{arith}
use lib.ListN.{length}
use borrow.Author.Tests.{ltb-true, le-ltb, ne_eqb}
use Rattle.definition.specs.Tools.{Bytes, pick}
use Rattle.definition.specs.Region.{Item, item, has_key, fetched, removed, size, span, span_of, used, items, look, key_limit}
use Rattle.definition.specs.Codec.{Op, batch_limit, long_key, be16, journal_key, encode}
use Rattle.definition.specs.Program.{flat}
use Rattle.definition.specs.Recovery.{too_many}
use Rattle.definition.proofs.Choices.{pick_yes, pick_no, bool}
use Rattle.definition.proofs.Codecs.{journal_injective}
use Rattle.definition.proofs.Items.{key_of, AllAllowed, fetched_removed_other}
use Rattle.definition.proofs.Records.{bounded}
use Rattle.definition.proofs.Image.{view, used_fits, good_parts, remove_good, look_remove_same, look_remove_other, store_good, look_store_same, look_store_other, remove_length, store_length}
use Rattle.reasons.proofs.StandsFor.{none≢some}
use Rattle.reasons.proofs.MapLaws.{Laws}

-- ---- no over-long key

no_long : (k : Bytes) (is : List Item) → AllAllowed is → long_key k ≡ true → fetched k is ≡ None
unfolding fetched long_key
no_long k [] a l = refl
no_long k (i ∷ is) a l =
    bool (has_key k i)
    (λ t.
    let short : length i.key ≤ key_limit = (bounded (length i.key) (length i.value) a.0).short in
    let same : length i.key ≡ length k = ap (λ (x : Bytes). length x) (key_of k i t) in
    absurd (omega (arith, ltb-true key_limit (length k) l)))
    (λ f. pick_no _ _ f ∙ no_long k is a.1 l)

-- ---- a journal that stands whole takes fifteen bytes an entry

used_found : (k v : Bytes) (is : List Item) → fetched k is ≡ Some v → span_of (item k v) + used (removed k is) ≤ used is
unfolding used removed fetched pick
used_found k v [] e = absurd (none≢some e)
used_found k v (i ∷ is) e =
    bool (has_key k i)
    (λ t.
    let z : Some i.value ≡ Some v = sym (pick_yes _ _ t) ∙ e in
    let w : i.value ≡ v = cc in
    let x : span_of (item k v) ≡ span_of i = sym (same i (key_of k i t) w) in
    rw t (omega arith))
    (λ f. rw f (omega (arith, used_found k v is (sym (pick_no _ _ f) ∙ e))))
  where
    same : (i : Item) → i.key ≡ k → i.value ≡ v → span_of i ≡ span_of (item k v)
    same i p q = ap (λ (a : Bytes). span_of (item a i.value)) p ∙ ap (λ (b : Bytes). span_of (item k b)) q

entry_span : (j : ℕ) (op : Op) → 15 ≤ span_of (item (journal_key j) (encode op))
unfolding span_of span size journal_key be16 encode
entry_span j op = omega arith

journal_room : (n : ℕ) (is : List Item) → ((j : ℕ) → j < n → (op : Op) × (fetched (journal_key j) is ≡ Some (encode op))) → n * 15 ≤ used is
journal_room zero is h = omega arith
journal_room (suc n) is h =
    let (op, e) = h n (omega arith) in
    omega (
      arith,
      used_found (journal_key n) (encode op) is e,
      entry_span n op,
      journal_room n (removed (journal_key n) is)
          (λ j l. let (o, q) = h j (omega arith) in (
            o,
            fetched_removed_other (journal_key n) (journal_key j) is
                (λ p. absurd (omega (arith, journal_injective n j p))) ∙ q,
          )),
    )

few : (len n : ℕ) → n ≤ batch_limit → n * 15 ≤ len → too_many len n ≡ false
unfolding too_many
few len n a b =
    let x : n ≡ 65535 → ⊥ = λ e. absurd (omega arith) in
    let y : n ≤ len / 15 = omega arith in
    pick_no _ _ (ne_eqb _ _ x) ∙ le-ltb _ _ y

counted : (n : ℕ) (s : Bytes) → n ≤ batch_limit → ((j : ℕ) → j < n → (op : Op) × (look (journal_key j) s ≡ Some (encode op))) → too_many (length s) n ≡ false
unfolding look
counted n s a h = few (length s) n a (omega (arith, journal_room n (items s) h, used_fits s))

-- ---- all laws

listed_look : (k s : Bytes) → fetched k (items s) ≡ look k s
unfolding look
listed_look k s = refl

pub flat_laws : Laws flat
flat_laws =
    record {
      put_same = λ k v s g r. look_store_same s g k v r;
      put_other = λ k v a s g r n. look_store_other s g k v r a n;
      drop_same = λ k s g r. look_remove_same s g k;
      drop_other = λ k a s g r n. look_remove_other s g k a n;
      put_sound = λ i s g r. store_good s g i;
      drop_sound = λ k s g r. remove_good s g k;
      put_extent = λ i s g r. store_length i s;
      drop_extent = λ k s g r. remove_length k s;
      listed_found = λ k s g. listed_look k s;
      listed_distinct = λ s g. (good_parts s g).1;
      no_long_key = λ k s g l. sym (listed_look k s) ∙ no_long k (items s) (view s).allowed l;
      counts = λ n s g a h. counted n s a h;
    }
