-- "Uniqueness of that outcome is proved": whatever meets a codec's contract, answer and buffer, is one. The contracts
-- that are an equation of the answer alone (`Key::get_len`, `Key::order`, `reserved`, the keys and the marker
-- written, an entry's parts) are definition/proofs/Determined's first law.
use mathlib.Core.Path.{◌≡◌, sym, ap, ◌∙◌}
use Rattle.std.specs.Prelude.{Option, Result}
use Prim.Native.Nat.{ℕ}
use lib.ListN.{length}
use Rattle.definition.specs.Tools.{Bytes}
use Rattle.definition.specs.Codec.{Op, key_write, key_bytes, laid_if, encode}
use Rattle.definition.specs.declared.Fault.{Fault}
use Rattle.definition.specs.Answers.{CodecAnswer}
use Rattle.definition.specs.declared.Entry.{Entry}
use Rattle.definition.proofs.Determined.{determined}
use Rattle.marks.specs.Forms.{MarkerReads}
use Rattle.entries.specs.Forms.{EntryReads}
use Rattle.codec.specs.Forms.{key_reads, Checks, Encodes}
use Rattle.codec.specs.declared.KeyRead.{KeyRead}

-- ---- answers

pub marker_determined : {v : Bytes} {m n : Option ℕ} → MarkerReads v m → MarkerReads v n → m ≡ n
marker_determined a b = determined a.is b.is

pub entry_determined : {v : Bytes} {e f : Entry} → EntryReads v e → EntryReads v f → e ≡ f
entry_determined a b = determined a.is b.is

pub check_determined : {tests : Option Fault} {k v : Bytes} {r q : Result (Unit {0}) Fault} → Checks tests k v r → Checks tests k v q
    → r ≡ q
check_determined a b = determined a.is b.is

pub read_determined : (s : Bytes) {r q : Result KeyRead Fault} → r ≡ key_reads s → q ≡ key_reads s → r ≡ q
read_determined s a b = determined a b

-- ---- answers, and what is made by them

-- where the answer is determined, so is what is a function of it
with_it : {X : Type 0} {r q : CodecAnswer} {x y : X} (made : CodecAnswer → X) → r ≡ q → x ≡ made r → y ≡ made q → x ≡ y
with_it made e a b = a ∙ ap made e ∙ sym b

pub write_determined : (key out : Bytes) {after other : Bytes} {r q : CodecAnswer}
    → (r ≡ key_write key (length out)) × (after ≡ laid_if r (key_bytes key) out)
    → (q ≡ key_write key (length out)) × (other ≡ laid_if q (key_bytes key) out)
    → (r ≡ q) × (after ≡ other)
write_determined key out a b =
    let e = determined a.0 b.0 in (e, with_it (λ x. laid_if x (key_bytes key) out) e a.1 b.1)

pub encode_determined : {op : Op} {out after other : Bytes} {r q : CodecAnswer} → Encodes op out after r
    → Encodes op out other q → (r ≡ q) × (after ≡ other)
encode_determined {op} {out} a b =
    let e = determined a.is b.is in (e, with_it (λ x. laid_if x (encode op) out) e a.made b.made)
