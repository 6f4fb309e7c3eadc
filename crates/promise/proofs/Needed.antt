-- The promise's conditions are needed: what is answered where one of them fails, computed from the definition.
use mathlib.Core.Path.{◌≡◌, refl, sym, ap, ◌∙◌}
use mathlib.Core.Bool.{false}
use mathlib.Core.List.{List, [], ◌∷◌, ◌++◌}
use Rattle.std.specs.Prelude.{Option, Some, Ok, Err}
use Prim.Native.Nat.{ℕ}
use native.Mathlib.Omega.{arith}
use lib.ListN.{length, take, replicate}
use Rattle.definition.specs.Tools.{Bytes}
use Rattle.definition.specs.Region.{Item, item, render, look}
use Rattle.definition.specs.Codec.{laid, marker_key}
use Rattle.definition.specs.Numbers.{refusal}
use Rattle.definition.specs.Space.{space_of}
use Rattle.definition.specs.Public.{outcome, state}
use Rattle.definition.specs.Public as Public
use Rattle.definition.specs.declared.Space.{Space}
use Rattle.definition.specs.declared.Fault.TheVariants.{JournalCorrupted, BatchCommitted, CommitUncertain, FullStorage}
use Rattle.definition.specs.declared.JournalPart.TheVariants.{MarkerCount}
use Rattle.definition.specs.declared.Health.TheVariants.{Clean, Pending}
use Rattle.definition.specs.Answers.{GetAnswer}
use Rattle.definition.proofs.Computes.{computes}
use Rattle.reasons.proofs.StandsFor.{none≢some}
use Rattle.promise.specs.Run.{mount, get, answered, got, refusal_of}
use Rattle.promise.specs.Promise.{Plain, Step}
use Rattle.promise.specs.Promise as P
use Rattle.promise.proofs.Example.{a, holds}

abbrev image : List Item → Bytes
image = render 8192

-- the numbers kept on such an image
abbrev on : List Item → Space
on is = space_of (image is)

abbrev marker_of : Bytes → Item
marker_of v = item (0 ∷ 0x63 ∷ []) v

-- ---- The region is lent whole. A batch of two deletes is done but for its marker (15). Lent 16 bytes of the 8192,
-- contains says 13: the marker counts more operations than a region of 16 bytes can journal. (So it is with a mount:
-- 16384 bytes, a batch of 600 deletes cut after 1,401 calls, then 8192 bytes. That is too long to compute here.)

abbrev two : Item
two = marker_of (0 ∷ 2 ∷ 0xff ∷ 0xfd ∷ [])

abbrev deletes : Bytes
deletes = 0x0a ∷ 0 ∷ 0 ∷ 0 ∷ 2 ∷ 0 ∷ 0 ∷ 0 ∷ 1 ∷ 0x61 ∷ 0x0a ∷ 0 ∷ 0 ∷ 0 ∷ 2 ∷ 0 ∷ 0 ∷ 0 ∷ 1 ∷ 0x62 ∷ []

abbrev late : Bytes
late = 0 ∷ 0 ∷ 0 ∷ 0 ∷ 0 ∷ 0 ∷ 0 ∷ 3 ∷ 3 ∷ []

shorter_before : Public.apply_batch (image []) late (state Clean 0 false (on [])) deletes
    ≡ outcome (Err BatchCommitted) (state Pending 9 false (on (two ∷ []))) 9 (image (two ∷ [])) []
unfolding computes
shorter_before = refl

shorter_cut : take 16 (image (two ∷ [])) ≡ render 16 (two ∷ [])
unfolding computes
shorter_cut = refl

shorter : Public.contains (render 16 (two ∷ [])) late (state Pending 9 false (on (two ∷ []))) a
    ≡ outcome (Err (JournalCorrupted (MarkerCount 2))) (state Pending 9 false (on (two ∷ []))) 1 (render 16 (two ∷ [])) []
unfolding computes
shorter = refl

-- ---- Each call is given the newest state. A batch is answered 16; with the state from before it a get finds the old
-- value, and after a mount the new one.

abbrev list : Bytes
list = 0x0b ∷ 0 ∷ 0 ∷ 0 ∷ 1 ∷ 0 ∷ 1 ∷ 0 ∷ 1 ∷ 0x61 ∷ 0x33 ∷ []

abbrev one : List Item
one = holds 0x31 ∷ item (0 ∷ 0x6a ∷ 0 ∷ 0 ∷ []) (0 ∷ 1 ∷ 0x61 ∷ 0x33 ∷ []) ∷ marker_of (0 ∷ 1 ∷ 0xff ∷ 0xfe ∷ []) ∷ []

abbrev unread : Bytes
unread = 0 ∷ 0x83 ∷ 3 ∷ []

older_before : Public.apply_batch (image (holds 0x31 ∷ [])) unread (state Clean 0 false (on (holds 0x31 ∷ []))) list
    ≡ outcome (Err CommitUncertain) (state Pending 3 false (on one)) 3 (image one) []
unfolding computes
older_before = refl

older : Public.get (image one) [] (state Clean 0 false (on one)) a (0 ∷ []) ≡ outcome (Ok (Some 1)) (state Clean 0 false (on one)) 1 (image one) (0x31 ∷ [])
unfolding computes
older = refl

older_mount : Public.mount (image one) [] 0 0 ≡ outcome (Ok tt) (state Clean 0 false (on (holds 0x33 ∷ []))) 5 (image (holds 0x33 ∷ [])) []
unfolding computes
older_mount = refl

older_after : Public.get (image (holds 0x33 ∷ [])) [] (state Clean 0 false (on (holds 0x33 ∷ []))) a (0 ∷ [])
    ≡ outcome (Ok (Some 1)) (state Clean 0 false (on (holds 0x33 ∷ []))) 1 (image (holds 0x33 ∷ [])) (0x33 ∷ [])
unfolding computes
older_after = refl

get_keeps : {A B : Plain} {key output shown : Bytes} {g : GetAnswer} → Step A (get key output) (got g shown) B → B ≡ A
get_keeps (P.ok (P.get_found e)) = refl
get_keeps (P.ok (P.get_absent e)) = refl
get_keeps (P.out r x y z) = refl

mount_keeps : {A B : Plain} {start at : ℕ} → Step A (mount start at) (answered (Ok tt)) B → B ≡ A
mount_keeps (P.ok P.mounted) = refl
mount_keeps (P.out r x y z) = refl

record Value (A : Plain) (key output shown : Bytes) (n : ℕ) : Type 0 where
  value : Bytes
  is : A key ≡ Some value
  size : n ≡ length value
  seen : shown ≡ laid value output

get_value : {A B : Plain} {key output shown : Bytes} {n : ℕ} → Step A (get key output) (got (Ok (Some n)) shown) B → Value A key output shown n
unfolding refusal_of refusal
get_value (P.ok (P.get_found {v = v} e)) = record { value = v; is = e; size = refl; seen = refl }
get_value (P.out r x y z) = absurd (none≢some r)

one_byte : {o : Option Bytes} {x : ℕ} (v : Bytes) → o ≡ Some v → 1 ≡ length v → x ∷ [] ≡ laid v (0 ∷ []) → o ≡ Some (x ∷ [])
unfolding laid
one_byte [] e n s = absurd (omega arith)
one_byte (y ∷ []) e n s = e ∙ ap Some (sym s)
one_byte (y ∷ (z ∷ v)) e n s = absurd (omega arith)

-- no plain map answers so
no_map : {A B C D : Plain} {start at : ℕ} → Step A (get a (0 ∷ [])) (got (Ok (Some 1)) (0x31 ∷ [])) B → Step B (mount start at) (answered (Ok tt)) C
    → Step C (get a (0 ∷ [])) (got (Ok (Some 1)) (0x33 ∷ [])) D → ⊥
no_map {A} p q r =
    let x = get_value p in
    let y = get_value r in
    let e : A a ≡ Some (0x31 ∷ []) = one_byte x.value x.is x.size x.seen in
    let f : A a ≡ Some (0x33 ∷ []) = ap (λ (M : Plain). M a) (sym (mount_keeps q ∙ get_keeps p)) ∙ one_byte y.value y.is y.size y.seen in
    let z : ◌≡◌ {A = ℕ} 0x31 0x33 = cc in
    omega arith

-- ---- A run starts with no bookkeeping items. On a region with a marker of another hand a mount says 13.

abbrev foreign : List Item
foreign = marker_of (2 ∷ 0x58 ∷ 0xfd ∷ 0xa7 ∷ []) ∷ []

foreign_start : look marker_key (image foreign) ≡ Some (2 ∷ 0x58 ∷ 0xfd ∷ 0xa7 ∷ [])
unfolding computes
foreign_start = refl

foreign_marker : Public.mount (image foreign) [] 0 0 ≡ outcome (Err (JournalCorrupted (MarkerCount 600))) (state Pending 0 false (on foreign)) 1 (image foreign) []
unfolding computes
foreign_marker = refl

-- ---- The last sentence says "or reports 6", and must: with 8160 of 8192 bytes used, the journal of a put and its
-- marker take the last 32. The batch is in (15), and until something else makes room every recovery ends in 6, with
-- no fault of a script.

abbrev big : ℕ → Item
big n = item (n ∷ []) (replicate 480 7)

abbrev filled : List Item
filled =
    big 1 ∷ big 2 ∷ big 3 ∷ big 4 ∷ big 5 ∷ big 6 ∷ big 7 ∷ big 8 ∷ big 9 ∷ big 10 ∷ big 11 ∷ big 12 ∷ big 13 ∷ big 14 ∷ big 15 ∷ big 16
    ∷ item (17 ∷ []) (replicate 310 7) ∷ []

abbrev stuck : List Item
stuck = filled ++ (item (0 ∷ 0x6a ∷ 0 ∷ 0 ∷ []) (0 ∷ 1 ∷ 0x61 ∷ 0x33 ∷ []) ∷ marker_of (0 ∷ 1 ∷ 0xff ∷ 0xfe ∷ []) ∷ [])

full_batch : Public.apply_batch (image filled) [] (state Clean 0 false (on filled)) list ≡ outcome (Err BatchCommitted) (state Pending 0 false (on stuck)) 6 (image stuck) []
unfolding computes
full_batch = refl

full_contains : Public.contains (image stuck) [] (state Pending 0 false (on stuck)) a ≡ outcome (Err FullStorage) (state Pending 0 false (on stuck)) 3 (image stuck) []
unfolding computes
full_contains = refl

full_mount : Public.mount (image stuck) [] 0 0 ≡ outcome (Err FullStorage) (state Pending 0 false (on stuck)) 3 (image stuck) []
unfolding computes
full_mount = refl
