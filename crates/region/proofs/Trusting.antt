-- A walk that trusts: in a region that is whole, one byte of a place tells a record from the tail, and its lengths
-- are all that is read.
use mathlib.Core.Path.{◌≡◌, refl, sym, ◌∙◌}
use mathlib.Core.Bool.{true}
use mathlib.Core.List.{[]}
use Prim.Native.Nat.{ℕ, ◌+◌, ◌-◌, ◌≤◌, ◌<◌}
use native.Mathlib.Omega.{arith}
use lib.ListN.{length, get_or, drop, length-drop}
use lib.Seq.{get_or-drop}
use Rattle.definition.specs.Tools.{Bytes}
use Rattle.definition.specs.Region.{le16_at, head_size, span, head_of, items, whole}
use Rattle.definition.specs.declared.Head.{Head}
use Rattle.definition.specs.declared.Head.TheVariants.{Record, End, Bad}
use Rattle.definition.proofs.Choices.{true≢false}
use Rattle.definition.proofs.Records.{Sound, bounded, blank_get, end_blank, record_sound, key_size_is, value_size_is}
use Rattle.definition.proofs.Image.{items_end, items_bad, whole_bad}
use Rattle.slices.proofs.Runs.{le16_further}
use Rattle.region.specs.Places.{Met}
use Rattle.region.proofs.Walks.{met}

module _ (s : Bytes) (at : ℕ) {k : ℕ} (ek : k ≡ get_or s (at + 8) 0) where
  key_there : (k' v' : ℕ) → Sound (drop at s) k' v' → k' ≡ k
  key_there k' v' h = sym (key_size_is (drop at s) k' v' h) ∙ get_or-drop at s 8 0 ∙ sym ek

  pub tail_there : k ≡ 255 → items (drop at s) ≡ []
  tail_there e = at_head (head_of (drop at s)) refl
    where
      at_head : (h : Head) → head_of (drop at s) ≡ h → items (drop at s) ≡ []
      at_head End eh = items_end _ eh
      at_head Bad eh = items_bad _ eh
      at_head (Record k' v') eh =
          let h = record_sound _ k' v' eh in
          let b = bounded k' v' h.fits in
          absurd (omega (arith, key_there k' v' h, b.short))

  module _ {left v : ℕ} (el : left ≡ length s - at) (ev : v ≡ le16_at s (at + 6)) (w : whole (drop at s) ≡ true) where
    pub record_there : head_size ≤ left → (k ≡ 255 → ⊥) → {n : ℕ} → n ≡ at + span k v → Met s at k v n
    record_there l z en = met s at k v (at_head (head_of (drop at s)) refl) en
      where
        at_head : (h : Head) → head_of (drop at s) ≡ h → head_of (drop at s) ≡ Record k v
        at_head End eh =
            let f : 8 < length (drop at s) = rw length-drop (omega arith) in
            absurd (z (ek ∙ sym (get_or-drop at s 8 0) ∙ blank_get (drop at s) 8 (end_blank _ eh) f))
        at_head Bad eh = absurd (true≢false w (whole_bad _ eh))
        at_head (Record k' v') eh =
            let h = record_sound _ k' v' eh in
            let e1 : k' ≡ k = key_there k' v' h in
            let e2 : v' ≡ v = sym (value_size_is (drop at s) k' v' h) ∙ le16_further s at 6 ∙ sym ev in
            eh ∙ rw (e1, e2)
