-- One operation that passed the batch's tests: its entry fits and is what is stored, and it may be done.
use mathlib.Core.Path.{◌≡◌, refl, sym, ap, ap₂, ◌∙◌}
use mathlib.Core.Bool.{true}
use Rattle.std.specs.Prelude.{None, Ok, Err}
use Prim.Native.Nat.{ℕ, ◌≤◌}
use native.Mathlib.Omega.{arith}
use lib.ListN.{length, take, drop, length-append, length-take}
use lib.Seq.{take-append_seam}
use borrow.Author.Tests.{le-ltb, ltb-false}
use Rattle.definition.specs.Tools.{Bytes}
use Rattle.definition.specs.Codec.{Op, Put, op_key, op_value, long_key, long_value, op_fault, encode, encode_into, laid, laid_if, be16, journal_key}
use Rattle.definition.specs.Region.{item, allowed}
use Rattle.definition.specs.Program.{flat, store}
use Rattle.definition.proofs.Choices.{pick_no, opt_none}
use Rattle.definition.proofs.Codecs.{fine}
use Rattle.definition.proofs.Records.{allowed_yes}
use Rattle.definition.specs.declared.Step.{Step}
use Rattle.definition.specs.declared.Fault.{Fault}
use Rattle.codec.specs.declared.OpKind.{OpKind}
use Rattle.codec.specs.declared.OpKind.TheVariants as K
use Rattle.codec.specs.Forms.{op_as, Encodes}
use Rattle.recovery.specs.Forms.{op_fits}
use Rattle.definition.specs.Answers.{CodecAnswer}
use Rattle.items.specs.Forms.{Answered, Ran}
use Rattle.items.proofs.Along.{ran_as}

-- ---- its lengths

record Short (op : Op) : Type 0 where
  key : length (op_key op) ≤ 96
  value : length (op_value op) ≤ 256

short : (op : Op) → op_fault op ≡ None → Short op
unfolding long_key long_value
short op e = let h = fine op e in record { key = ltb-false 96 _ h.short; value = ltb-false 256 _ h.small }

-- ---- its entry

module _ (op : Op) (e : op_fault op ≡ None) {out after : Bytes} {r : CodecAnswer} (h : Encodes op out after r) (room : length out ≡ 354) where
  entry_small : length (encode op) ≤ 354
  unfolding encode
  entry_small = let s = short op e in omega (arith, length-append (op_key op) (op_value op))

  encoded : r ≡ Ok (length (encode op))
  unfolding encode_into
  encoded =
      let s = entry_small in
      let l : length (encode op) ≤ length out = omega arith in
      h.is ∙ opt_none _ _ e ∙ pick_no _ _ (le-ltb _ _ l)

  pub never_refused : {f : Fault} → r ≡ Err f → ⊥
  never_refused q = let p = encoded in let z : ◌≡◌ {A = ℕ} 0 1 = cc in omega arith

  module _ {n : ℕ} (q : r ≡ Ok n) where
    length_is : n ≡ length (encode op)
    length_is = let p = encoded in cc

    pub entry_is : take n after ≡ encode op
    unfolding laid_if laid
    entry_is =
        ap₂ take length_is (h.made ∙ ap (λ (x : CodecAnswer). laid_if x (encode op) out) encoded)
        ∙ take-append_seam (encode op) (drop (length (encode op)) out)

    pub entry_length : n ≡ length (take n after)
    entry_length = length_is ∙ ap length (sym entry_is)

    pub entry_within : n ≤ length after
    entry_within = omega (arith, entry_length, length-take n after)

    pub entry_allowed : (i : ℕ) {j : Bytes} → j ≡ journal_key i → allowed (length j) (length (take n after)) ≡ true
    unfolding journal_key be16
    entry_allowed i {j} ej =
        let four : length j ≡ 4 = ap length ej in
        let k : length j ≤ 96 = omega arith in
        allowed_yes (length j) (length (take n after)) k (omega (arith, entry_length, length_is, entry_small))

    pub entry_stored : (i : ℕ) {j s script b : Bytes} {t : Step} {a : Answered} → j ≡ journal_key i → Ran (store flat (item j (take n after))) s script t b a
        → Ran (store flat (item (journal_key i) (encode op))) s script t b a
    entry_stored i ej x = ran_as (ap₂ (λ (k v : Bytes). store flat (item k v)) (sym ej) (sym entry_is)) x

-- ---- what it does

pub op_fits_fine : (kind : OpKind) (k v : Bytes) → op_fault (op_as kind k v) ≡ None → op_fits kind k v ≡ true
unfolding op_fits op_as op_key op_value
op_fits_fine K.Put k v e = let s = short (Put k v) e in allowed_yes (length k) (length v) s.key (omega arith)
op_fits_fine K.Delete k v e = refl
