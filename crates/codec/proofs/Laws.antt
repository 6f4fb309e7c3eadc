-- What each return of the codecs' functions says, over plain variables.
use mathlib.Core.Path.{◌≡◌, refl, sym, ap, ap₂, ◌∙◌, subst}
use mathlib.Core.Bool.{Bool, true, false}
use mathlib.Core.Logic.{◌⊎◌, inl, inr}
use mathlib.Core.List.{[], ◌∷◌, ◌++◌}
use Rattle.std.specs.Prelude.{Option, None, Some, Result, Ok, Err, option_copied, slice_get, ok_or}
use Rattle.std.specs.Result.{result_map_both}
use Rattle.std.specs.Cmp.Lexicographic.{slice_cmp}
use Rattle.std.specs.Ordering.{nat_cmp, ordering_then, MatchOrdering}
use Rattle.std.specs.Cmp.{ranks}
use Rattle.std.specs.declared.cmp.Ordering.{Ordering}
use lib.Dec.{ltb}
use Rattle.std.proofs.Common.{Bor}
use Prim.Native.Nat.{ℕ, ◌+◌, ◌-◌, ◌<◌, ◌≤◌}
use native.Mathlib.Omega.{arith}
use native.Mathlib.Nat.{le_of_lt, zero-add}
use lib.ListN.{length, take, drop, set, replicate, length-append, length-drop, length-set, length-replicate, get_or-replicate}
use lib.Seq.{length-take-le, ext_get_or, get_or-drop}
use borrow.Author.Tests.{lt-ltb, le-ltb}
use Rattle.definition.specs.Tools.{Bytes, pick}
use Rattle.definition.specs.Codec.{Put, op_key, op_value, op_byte, reserved, long_key, long_value, key_too_long, value_too_long, key_read, key_in, key_length, key_write, key_bytes, order, op_fault, encode, encode_into, laid, laid_if}
use Rattle.definition.proofs.Choices.{passed_on, picked, passed, pick_yes, pick_no, opt_none, opt_some}
use Rattle.definition.specs.declared.Fault.{Fault}
use Rattle.definition.specs.declared.Fault.TheVariants.{Serialization, ReservedKey}
use Rattle.definition.specs.declared.SerializationKind.TheVariants.{BufferTooSmall, InvalidData}
use Rattle.definition.specs.Answers.{CodecAnswer}
use Rattle.std.specs.declared.cmp.Ordering.TheVariants.{Less, Equal, Greater}
use Rattle.codec.specs.declared.OpKind.{OpKind}
use Rattle.codec.specs.declared.OpKind.TheVariants as P
use Rattle.codec.specs.Forms.{padded, KeyLens, key_front, key_reads, checked_of, Bounded, Checks, entry_bytes, entry_answer, EntryWrites, op_as, Encodes}
use Rattle.slices.specs.Written.{written}
use Rattle.slices.proofs.Copying.{written_then, set_written, laid_written}

-- ---- keys

-- a look at the first byte, by reference as the code has it
length_first : (s : Bytes) (first : Option (Bor ℕ)) → option_copied first ≡ slice_get s 0
    → key_length s ≡ result_map_both (λ b. b.now + 1) (λ f. f) (ok_or first (Serialization BufferTooSmall))
unfolding key_length
length_first [] None e = refl
length_first [] (Some b) e = let z : ◌≡◌ {A = ℕ} 0 1 = cc in absurd (omega arith)
length_first (n ∷ s) None e = let z : ◌≡◌ {A = ℕ} 0 1 = cc in absurd (omega arith)
length_first (n ∷ s) (Some b) e = let z : n ≡ b.now = cc in ap (λ x. Ok (x + 1)) z

pub length_none : (s : Bytes) (first : Option (Bor ℕ)) {f : Fault} → option_copied first ≡ slice_get s 0
    → Err f ≡ ok_or first (Serialization BufferTooSmall) → Err f ≡ key_length s
length_none s first e q = ap (result_map_both (λ b. b.now + 1) (λ f. f)) q ∙ sym (length_first s first e)

pub length_some : (s : Bytes) (first : Option (Bor ℕ)) {b : Bor ℕ} → option_copied first ≡ slice_get s 0
    → Ok b ≡ ok_or first (Serialization BufferTooSmall) → Ok (b.now + 1) ≡ key_length s
length_some s first e q = ap (result_map_both (λ b. b.now + 1) (λ f. f)) q ∙ sym (length_first s first e)

pub read_none : (s : Bytes) {f : Fault} → Err f ≡ key_length s → KeyLens s (Err f)
unfolding key_length key_read
read_none [] e = record { is = e; inside = tt }
read_none (n ∷ s) e = let z : ◌≡◌ {A = ℕ} 0 1 = cc in absurd (omega arith)

module _ {n : ℕ} where
  pub read_wrong : (s : Bytes) → Ok n ≡ key_length s → (97 < n) ⊎ ((n ≤ 97) × (length s < n)) → KeyLens s (Err (Serialization InvalidData))
  unfolding key_length key_read
  read_wrong [] e l = let z : ◌≡◌ {A = ℕ} 0 1 = cc in absurd (omega arith)
  read_wrong (b ∷ s) e (inl l) =
      let q : n ≡ b + 1 = cc in
      let z : 96 < b = omega arith in record { is = picked _ _ _ (lt-ltb _ _ z) refl; inside = tt }
  read_wrong (b ∷ s) e (inr l) =
      let q : n ≡ b + 1 = cc in
      let z : b ≤ 96 = omega arith in
      let y : length s < b = omega arith in
      record { is = passed _ _ _ (le-ltb _ _ z) (picked _ _ _ (lt-ltb _ _ y) refl); inside = tt }

  pub read_whole : (s : Bytes) → Ok n ≡ key_length s → n ≤ 97 → n ≤ length s → KeyLens s (Ok n)
  unfolding key_length key_read
  read_whole [] e l m = let z : ◌≡◌ {A = ℕ} 0 1 = cc in absurd (omega arith)
  read_whole (b ∷ s) e l m =
      let q : n ≡ b + 1 = cc in
      let z : b ≤ 96 = omega arith in
      let y : b ≤ length s = omega arith in
      record {
        is = passed _ _ _ (le-ltb _ _ z) (passed _ _ _ (le-ltb _ _ y) (ap Ok q));
        inside = (omega arith, l, m);
      }

module _ (k : Bytes) (room : ℕ) where
  pub write_long : 96 < length k → Err (key_too_long k) ≡ key_write k room
  unfolding key_write long_key
  write_long h = picked _ _ _ (lt-ltb _ _ h) refl

  pub write_short : length k ≤ 96 → room < length k + 1 → Err (Serialization BufferTooSmall) ≡ key_write k room
  unfolding key_write long_key
  write_short h l = passed _ _ _ (le-ltb _ _ h) (picked _ _ _ (lt-ltb _ _ l) refl)

  pub write_fits : length k ≤ 96 → length k + 1 ≤ room → Ok (length k + 1) ≡ key_write k room
  unfolding key_write long_key
  write_fits h l = passed _ _ _ (le-ltb _ _ h) (passed _ _ _ (le-ltb _ _ l) refl)

-- the library's order of bytes is document 01's: here at two first bytes, by which is less
at_first : (x y : ℕ) (o : Ordering) {s t : Ordering} → MatchOrdering o (x < y) (x ≡ y) (y < x) → s ≡ t
    → ordering_then o s ≡ pick (ltb x y) Less (pick (ltb y x) Greater t)
at_first x y Less h e = sym (pick_yes _ _ (lt-ltb _ _ h))
at_first x y Equal h e = passed _ _ _ (le-ltb x y (omega arith)) (passed _ _ _ (le-ltb y x (omega arith)) e)
at_first x y Greater h e = passed _ _ _ (le-ltb _ _ (le_of_lt h)) (picked _ _ _ (lt-ltb _ _ h) refl)

pub order_cmp : (a b : Bytes) → slice_cmp nat_cmp a b ≡ order a b
unfolding order
order_cmp [] [] = refl
order_cmp [] (y ∷ b) = refl
order_cmp (x ∷ a) [] = refl
order_cmp (x ∷ a) (y ∷ b) = at_first x y (nat_cmp x y) (ranks x y) (order_cmp a b)

-- ---- an operation's tests

module _ (k v : Bytes) where
  pub op_long : 96 < length k → Checks (op_fault (Put k v)) k v (Err (key_too_long k))
  unfolding op_fault op_key op_value checked_of long_key
  op_long h = record { is = ap checked_of (picked _ _ _ (lt-ltb _ _ h) refl); bounds = tt }

  module _ (h1 : length k ≤ 96) {r : Bool} (er : r ≡ reserved k) where
    pub op_reserved : r ≡ true → Checks (op_fault (Put k v)) k v (Err ReservedKey)
    unfolding op_fault op_key op_value checked_of long_key
    op_reserved h = record { is = ap checked_of (passed _ _ _ (le-ltb _ _ h1) (picked _ _ _ (sym er ∙ h) refl)); bounds = tt }

    module _ (h2 : r ≡ false) where
      pub op_value_refused : 256 < length v → Checks (op_fault (Put k v)) k v (Err (value_too_long v))
      unfolding op_fault op_key op_value checked_of long_key long_value
      op_value_refused h =
          record { is = ap checked_of (passed _ _ _ (le-ltb _ _ h1) (passed _ _ _ (sym er ∙ h2) (picked _ _ _ (lt-ltb _ _ h) refl))); bounds = tt }

      pub op_fine : length v ≤ 256 → Checks (op_fault (Put k v)) k v (Ok tt)
      unfolding op_fault op_key op_value checked_of long_key long_value
      op_fine h =
          record { is = ap checked_of (passed _ _ _ (le-ltb _ _ h1) (passed _ _ _ (sym er ∙ h2) (passed _ _ _ (le-ltb _ _ h) refl))); bounds = (h1, h) }

-- what the tests said, from the answer that holds it
pub fault_none : (o : Option Fault) {x : Unit {0}} → Ok x ≡ checked_of o → o ≡ None
unfolding checked_of
fault_none None e = refl
fault_none (Some f) e = let z : ◌≡◌ {A = ℕ} 0 1 = cc in absurd (omega arith)

pub fault_some : (o : Option Fault) {f : Fault} → Err f ≡ checked_of o → o ≡ Some f
unfolding checked_of
fault_some None e = let z : ◌≡◌ {A = ℕ} 0 1 = cc in absurd (omega arith)
fault_some (Some g) {f} e = let z : g ≡ f = cc in ap Some z

module _ {tests : Option Fault} {k v : Bytes} {r : Result (Unit {0}) Fault} (c : Checks tests k v r) where
  pub fine_bounds : {x : Unit {0}} → r ≡ Ok x → (length k ≤ 96) × (length v ≤ 256)
  fine_bounds q = subst (Bounded k v) q c.bounds

  pub fine_none : {x : Unit {0}} → r ≡ Ok x → tests ≡ None
  fine_none q = fault_none tests (sym q ∙ c.is)

  pub refused_some : {f : Fault} → r ≡ Err f → tests ≡ Some f
  refused_some {f} q = fault_some tests (sym q ∙ c.is)

-- ---- what is written

drop_replicate : (n m x : ℕ) → drop n (replicate m x) ≡ replicate (m - n) x
drop_replicate n m x = ext_get_or 0 _ _ (simp (length-drop, length-replicate))
    (λ i h. let l : i < m - n = omega (arith, length-drop n (replicate m x), length-replicate m x) in get_or-drop n (replicate m x) i 0 ∙ get_or-replicate m (n + i) x 0 (omega arith) ∙ sym (get_or-replicate (m - n) i x 0 l))

pub pad_is : (k : Bytes) → written (replicate 96 0) 0 k ≡ padded k
unfolding written padded
pad_is k = ap (λ (l : Bytes). k ++ l) (ap (λ n. drop n (replicate 96 0)) (zero-add (length k)) ∙ drop_replicate (length k) 96 0)

pub key_refused : (s : Bytes) {f : Fault} → KeyLens s (Err f) → Err f ≡ key_reads s
unfolding key_reads key_front
key_refused s h = ap (λ x. key_front x s) h.is

pub key_whole : (s bytes : Bytes) {n : ℕ} → KeyLens s (Ok n) → bytes ≡ padded (take (n - 1) (drop 1 s))
    → Ok (record { key = record { bytes = bytes; len = n - 1 }; taken = n }) ≡ key_reads s
unfolding key_reads key_front key_in
key_whole s bytes {n} h e =
    let l : n - 1 ≡ length (take (n - 1) (drop 1 s)) = sym (length-take-le (n - 1) (drop 1 s) (simp length-drop (omega arith))) in
    ap₂ (λ (b : Bytes) (m : ℕ). Ok (record { key = record { bytes = b; len = m }; taken = n })) e l ∙ ap (λ x. key_front x s) h.is

pub key_laid : (k out : Bytes) → length k + 1 ≤ length out → written (set out 0 (length k)) 1 k ≡ laid (key_bytes k) out
unfolding key_bytes
key_laid k out h =
    ap (λ x. written x 1 k) (set_written out 0 (length k) (omega arith))
    ∙ written_then out 0 1 (length k ∷ []) k refl (omega arith) ∙ laid_written (length k ∷ k) out

pub entry_laid : (op : ℕ) (k v out r1 r2 : Bytes) → 2 + length k + length v ≤ length out
    → r1 ≡ written (set (set out 0 op) 1 (length k)) 2 k → r2 ≡ written r1 (2 + length k) v → r2 ≡ laid (entry_bytes op k v) out
unfolding entry_bytes
entry_laid op k v out r1 r2 h e1 e2 =
    let a : set (set out 0 op) 1 (length k) ≡ written out 0 (op ∷ length k ∷ []) =
    set_written (set out 0 op) 1 (length k) (simp length-set (omega arith)) ∙ ap (λ x. written x 1 (length k ∷ [])) (set_written out 0 op (omega arith))
    ∙ written_then out 0 1 (op ∷ []) (length k ∷ []) refl (omega arith) in
    let b : r1 ≡ written out 0 (op ∷ length k ∷ k) = e1 ∙ ap (λ x. written x 2 k) a ∙ written_then out 0 2 (op ∷ length k ∷ []) k refl (omega arith) in
    let z : 2 + length k ≡ 0 + (2 + length k) = omega arith in
    e2 ∙ ap₂ (λ x n. written x n v) b z ∙ written_then out 0 (2 + length k) (op ∷ length k ∷ k) v (omega arith) (omega arith) ∙ laid_written (op ∷ length k ∷ (k ++ v)) out

-- ---- an entry

length_entry : (op : ℕ) (k v : Bytes) → length (entry_bytes op k v) ≡ 2 + length k + length v
unfolding entry_bytes
length_entry op k v = omega (arith, length-append k v)

module _ (op : ℕ) (k v out : Bytes) where
  pub entry_refused : {f : Fault} → Checks (op_fault (Put k v)) k v (Err f) → EntryWrites op k v out out (Err f)
  unfolding entry_answer laid_if
  entry_refused c = record { is = sym (opt_some _ _ (fault_some _ c.is)); made = refl }

  module _ {x : Unit {0}} (c : Checks (op_fault (Put k v)) k v (Ok x)) where
    pub entry_full : length out < 2 + length k + length v → EntryWrites op k v out out (Err (Serialization BufferTooSmall))
    unfolding entry_answer laid_if
    entry_full h =
        let z : length out < length (entry_bytes op k v) = omega (arith, length_entry op k v) in
        record { is = sym (opt_none _ _ (fault_none _ c.is) ∙ pick_yes _ _ (lt-ltb _ _ z)); made = refl }

    pub entry_made : (r1 r2 : Bytes) → 2 + length k + length v ≤ length out
        → r1 ≡ written (set (set out 0 op) 1 (length k)) 2 k → r2 ≡ written r1 (2 + length k) v → EntryWrites op k v out r2 (Ok (2 + length k + length v))
    unfolding entry_answer laid_if
    entry_made r1 r2 h e1 e2 =
        let z : length (entry_bytes op k v) ≤ length out = omega (arith, length_entry op k v) in
        record {
          is = ap Ok (sym (length_entry op k v)) ∙ sym (opt_none _ _ (fault_none _ c.is) ∙ pick_no _ _ (le-ltb _ _ z));
          made = entry_laid op k v out r1 r2 h e1 e2;
        }

pub put_encodes : {kind : OpKind} {k v out after : Bytes} {r : CodecAnswer} → kind ≡ P.Put → EntryWrites 0 k v out after r → Encodes (op_as kind k v) out after r
unfolding op_as encode_into encode entry_answer entry_bytes op_key op_value op_byte
put_encodes {kind} {k} {v} {out} {after} {r} q h = subst (λ x. Encodes (op_as x k v) out after r) (sym q) (record { is = h.is; made = h.made })

pub delete_encodes : {kind : OpKind} {k out after : Bytes} (v : Bytes) {r : CodecAnswer} → kind ≡ P.Delete → EntryWrites 1 k [] out after r → Encodes (op_as kind k v) out after r
unfolding op_as encode_into encode entry_answer entry_bytes op_fault op_key op_value op_byte
delete_encodes {kind} {k} {out} {after} v {r} q h = subst (λ x. Encodes (op_as x k v) out after r) (sym q) (record { is = h.is; made = h.made })

-- what each return says, of `get_len`, `read_len`, `write` and `check_op`
pub ruleset length_tests = (length_none, length_some, passed_on)

pub ruleset read_tests = (read_none, read_wrong, passed_on)

pub ruleset write_tests = (write_long, write_short, write_fits, key_laid)

pub ruleset op_tests = (op_long, op_reserved, op_value_refused, op_fine)
