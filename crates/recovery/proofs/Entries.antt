-- What each way out of the functions over one operation and over one journal entry says.
use mathlib.Core.Path.{◌≡◌, refl, sym, ap, ap₂, ◌∙◌, subst}
use mathlib.Core.Bool.{true}
use Rattle.std.specs.Prelude.{Option, Some, None, Ok, Err}
use Prim.Native.Nat.{ℕ, ◌+◌, ◌≤◌}
use native.Mathlib.Omega.{arith}
use lib.ListN.{length, take, drop, length-take, length-drop}
use lib.Seq.{take_at}
use Rattle.definition.specs.Tools.{Bytes, opt}
use Rattle.definition.specs.Codec.{Op, Put, Delete, journal_key, entry_of, key_part, value_part, op_of, decode}
use Rattle.definition.specs.Region.{item, good, allowed}
use Rattle.definition.specs.Space.{space_of}
use Rattle.definition.specs.Program.{ret, flat, store, remove}
use Rattle.definition.specs.Recovery.{act, land, redo_entry, redo}
use Rattle.definition.proofs.Choices.{opt_none, opt_some}
use Rattle.definition.proofs.Records.{allowed_yes}
use Rattle.definition.specs.declared.Step.{Step}
use Rattle.definition.specs.declared.Fault.TheVariants.{JournalCorrupted}
use Rattle.definition.specs.declared.JournalPart.TheVariants as J
use Rattle.definition.specs.declared.Entry.{Entry}
use Rattle.definition.specs.declared.Entry.TheVariants as E
use Rattle.codec.specs.declared.OpKind.{OpKind}
use Rattle.codec.specs.declared.OpKind.TheVariants as K
use Rattle.entries.specs.Forms.{Inside, EntryReads}
use Rattle.codec.specs.Forms.{op_as}
use Rattle.recovery.specs.Forms.{op_fits}
use Rattle.std.specs.Borrow.{Bor}
use Rattle.slices.specs.Written.{written}
use Rattle.items.specs.declared.Failure.{Failure}
use Rattle.items.specs.Forms.{Answered, Fetched, failure, value_of, Ran, Fetches}
use Rattle.items.proofs.Laws.{store_wrote, remove_wrote}
use Rattle.items.proofs.Along.{ran_as, runs_err, runs_ret, done_ran, failed_ran, seq_failed, seq_on, fetch_seq_failed, fetch_seq_on}

-- ---- a copy

pub copy_is : {n : ℕ} (v o e : Bytes) → length v ≤ n → length o ≡ n → e ≡ written o 0 v → take (length v) e ≡ v
unfolding written
copy_is v o e h l w = ap (take (length v)) w ∙ take_at v _ (length v) refl

-- ---- one operation: it is done, and its journal item is removed after it, or one of the two failed

module _ {kind : OpKind} (k v : Bytes) where
  pub put_fits : kind ≡ K.Put → op_fits kind k v ≡ true → allowed (length k) (length v) ≡ true
  unfolding op_fits
  put_fits q e = sym (ap (λ (o : OpKind). op_fits o k v) q) ∙ e

  module _ {s script b : Bytes} {t : Step} {r : Answered} where
    pub acts_put : kind ≡ K.Put → Ran (store flat (item k v)) s script t b r → Ran (act flat (op_as kind k v)) s script t b r
    unfolding op_as act
    acts_put q x = ran_as (ap (λ (o : OpKind). act flat (op_as o k v)) q) x

    pub acts_delete : kind ≡ K.Delete → Ran (remove flat k) s script t b r → Ran (act flat (op_as kind k v)) s script t b r
    unfolding op_as act
    acts_delete q x = ran_as (ap (λ (o : OpKind). act flat (op_as o k v)) q) x

-- an operation that is done has counted
pub act_counted : (op : Op) {s script b : Bytes} {t t1 : Step} {r : Answered} → Ran (act flat op) s script t b r → r ≡ Ok t1 → t1.space ≡ space_of b
unfolding act
act_counted (Put k v) h e = (store_wrote (item k v) h e).counted
act_counted (Delete k) h e = (remove_wrote k h e).counted

module _ (i : ℕ) (op : Op) {s script b : Bytes} {t : Step} {r : Answered} (h : Ran (act flat op) s script t b r) where
  pub land_failed : {e : Failure} → r ≡ Err e → Ran (land flat i op) s script t b (Err e)
  unfolding land
  land_failed e = seq_failed (λ x. remove flat (journal_key i)) h e

  pub land_on : {t1 : Step} {j b2 : Bytes} {r2 : Answered} → r ≡ Ok t1 → j ≡ journal_key i → Ran (remove flat j) b script t1 b2 r2 → Ran (land flat i op) s script t b2 r2
  unfolding land
  land_on e ej n = seq_on (λ x. remove flat (journal_key i)) h e (ran_as (ap (remove flat) (sym ej)) n)

-- ---- what an entry says

module _ (i : ℕ) (v : Bytes) {e : Entry} (h : EntryReads v e) where
  pub entry_corrupt : e ≡ E.Corrupt → {s script : Bytes} {t : Step} → good s ≡ true
      → Ran (redo_entry flat i v) s script t s (Err (failure (JournalCorrupted (J.Entry i)) t))
  unfolding redo_entry decode op_of
  entry_corrupt q g = ran_as (opt_none _ _ (ap (λ e. op_of e v) (sym h.is ∙ q))) (failed_ran (runs_err g))

  module _ {n : ℕ} {k x : Bytes} (ek : k ≡ key_part (entry_of v) v) (ex : x ≡ value_part (entry_of v) v) {s script b : Bytes} {t : Step} {r : Answered} where
    pub entry_put : e ≡ E.Put n → Ran (land flat i (op_as K.Put k x)) s script t b r → Ran (redo_entry flat i v) s script t b r
    unfolding redo_entry decode op_of key_part value_part op_as
    entry_put q y =
        let z : entry_of v ≡ E.Put n = sym h.is ∙ q in
        let d : decode v ≡ Some (Put k x) =
        ap (λ e. op_of e v) z ∙ ap₂ (λ a b. Some (Put a b)) (ap (λ e. key_part e v) (sym z) ∙ sym ek) (ap (λ e. value_part e v) (sym z) ∙ sym ex) in
        ran_as (opt_some _ _ d) y

    pub entry_delete : e ≡ E.Delete n → Ran (land flat i (op_as K.Delete k x)) s script t b r → Ran (redo_entry flat i v) s script t b r
    unfolding redo_entry decode op_of key_part op_as
    entry_delete q y =
        let z : entry_of v ≡ E.Delete n = sym h.is ∙ q in
        let d : decode v ≡ Some (Delete k) = ap (λ e. op_of e v) z ∙ ap (λ a. Some (Delete a)) (ap (λ e. key_part e v) (sym z) ∙ sym ek) in
        ran_as (opt_some _ _ d) y

-- what a put's entry says may be stored, and a delete's asks nothing
module _ (v : Bytes) {e : Entry} (h : EntryReads v e) {n : ℕ} {k x : Bytes} (ek : k ≡ key_part (entry_of v) v) (ex : x ≡ value_part (entry_of v) v) where
  pub entry_fits : e ≡ E.Put n → op_fits K.Put k x ≡ true
  unfolding op_fits key_part value_part
  entry_fits q =
      let z : entry_of v ≡ E.Put n = sym h.is ∙ q in
      let b = subst (Inside v) q h.inside in
      let lk : length k ≡ length (take n (drop 2 v)) = ap length (ek ∙ ap (λ e. key_part e v) z) in
      let lx : length x ≡ length (drop (2 + n) v) = ap length (ex ∙ ap (λ e. value_part e v) z) in
      let a : length k ≤ 96 = omega (arith, b.1, length-take n (drop 2 v)) in
      allowed_yes (length k) (length x) a (omega (arith, b.1, b.2, length-take n (drop 2 v), length-drop (2 + n) v))

pub delete_fits : (k x : Bytes) → op_fits K.Delete k x ≡ true
unfolding op_fits
delete_fits k x = refl

-- ---- one journal entry, fetched

module _ (i : ℕ) {j s script : Bytes} {t : Step} {r : Fetched} (ej : j ≡ journal_key i) (g : good s ≡ true) (h : Fetches j s script t r) where
  fetched : Fetches (journal_key i) s script t r
  fetched = subst (λ j. Fetches j s script t r) ej h

  pub redo_failed : {e : Failure} → r ≡ Err e → Ran (redo flat i) s script t s (Err e)
  unfolding redo
  redo_failed e = fetch_seq_failed _ g fetched e

  pub redo_absent : {x : Option (Bor Bytes) × Step} → r ≡ Ok x → x.0 ≡ None → Ran (redo flat i) s script t s (Ok x.1)
  unfolding redo opt
  redo_absent e q = fetch_seq_on (λ o. opt o (ret tt) (redo_entry flat i)) g fetched e (ran_as (ap (λ o. opt (value_of o) (ret tt) (redo_entry flat i)) q) (done_ran (runs_ret g)))

  pub redo_present : {x : Option (Bor Bytes) × Step} {v : Bor Bytes} {w b : Bytes} {r2 : Answered} → r ≡ Ok x → x.0 ≡ Some v → w ≡ v.now
      → Ran (redo_entry flat i w) s script x.1 b r2 → Ran (redo flat i) s script t b r2
  unfolding redo opt
  redo_present {w = w} e q ew n =
      fetch_seq_on (λ o. opt o (ret tt) (redo_entry flat i)) g fetched e
      (ran_as (ap (λ o. opt (value_of o) (ret tt) (redo_entry flat i)) q ∙ ap (redo_entry flat i) (sym ew)) n)
