-- What stands at the front of an operation list, and what that makes of the list's operations.
use mathlib.Core.Path.{◌≡◌, refl, sym, ap, ap₂, ◌∙◌}
use mathlib.Core.Bool.{Bool, true, false}
use mathlib.Core.List.{List, [], ◌∷◌}
use Rattle.std.specs.Prelude.{Option, None, Some, option_map}
use Prim.Native.Nat.{ℕ, zero, suc, ◌+◌, ◌-◌, ◌≤◌, ◌<◌}
use native.Mathlib.Nat.{le_refl}
use native.Mathlib.Omega.{arith}
use lib.Dec.{eqb}
use borrow.Author.Tests.{le-leb, lt-leb, ne_eqb}
use lib.ListN.{length, get_or, drop, length-take, length-drop}
use lib.Seq.{get_or-drop}
use Rattle.definition.specs.Tools.{Bytes, pick, opt}
use Rattle.definition.specs.Codec.{Op, Put, Delete}
use Rattle.slices.proofs.Runs.{le16_further}
use Rattle.definition.specs.Region.{Item, le16_at, head_size, size, agrees, key_size, value_size, item_at}
use Rattle.definition.specs.OperationList.{put_kind, delete_kind, op_at, op_size, ops_up_to, ops_of}
use Rattle.definition.proofs.Choices.{pick_yes, pick_no, opt_none, opt_some}
use Rattle.region.proofs.Walks.{item_there}
use Rattle.codec.specs.declared.OpKind.TheVariants as K
use Rattle.codec.specs.Forms.{op_as}
use Rattle.codec.specs.declared.OpKind.{OpKind}
use Rattle.region.specs.Places.{key_at, value_at}
use Rattle.oplist.specs.declared.ListOp.{ListOp}
use Rattle.oplist.specs.Places.{Met}

-- ---- the operations of a list, one at a time

size_some : (s : Bytes) → head_size ≤ op_size s
unfolding op_size size
size_some s = omega arith

up_to_same : (m n : ℕ) (s : Bytes) → length s ≤ m → length s ≤ n → ops_up_to m s ≡ ops_up_to n s
unfolding ops_up_to pick
up_to_same zero zero s hm hn = refl
up_to_same zero (suc n) [] hm hn = refl
up_to_same zero (suc n) (x ∷ s) hm hn = absurd (omega arith)
up_to_same (suc m) zero [] hm hn = refl
up_to_same (suc m) zero (x ∷ s) hm hn = absurd (omega arith)
up_to_same (suc m) (suc n) s hm hn =
    let d : ℕ = op_size s in
    let g = size_some s in
    let l = length-drop d s in
    ap (λ (r : Option (List Op)). pick (eqb (length s) 0) (Some []) (opt (op_at s) None (λ op. option_map (λ ops. op ∷ ops) r)))
    (up_to_same m n (drop d s) (omega arith) (omega arith))

pub ops_empty : (s : Bytes) → length s ≡ 0 → ops_of s ≡ Some []
unfolding ops_of ops_up_to pick
ops_empty [] e = refl
ops_empty (x ∷ s) e = absurd (omega arith)

ops_step : (s : Bytes) → 0 < length s → ops_of s ≡ opt (op_at s) None (λ op. option_map (λ ops. op ∷ ops) (ops_of (drop (op_size s) s)))
unfolding ops_of ops_up_to
ops_step [] h = absurd (omega arith)
ops_step (x ∷ xs) h =
    let s : Bytes = x ∷ xs in
    let d : ℕ = op_size s in
    let g = size_some s in
    let l = length-drop d s in
    pick_no _ _ (ne_eqb (length s) 0 (λ e. absurd (omega arith)))
    ∙ ap (λ (r : Option (List Op)). opt (op_at s) None (λ op. option_map (λ ops. op ∷ ops) r))
    (up_to_same (length xs) (length (drop d s)) (drop d s) (omega arith) (le_refl _))

pub ops_on : (s : Bytes) {op : Op} → 0 < length s → op_at s ≡ Some op → ops_of s ≡ option_map (λ ops. op ∷ ops) (ops_of (drop (op_size s) s))
ops_on s h e = ops_step s h ∙ opt_some _ _ e

pub ops_off : (s : Bytes) → 0 < length s → op_at s ≡ None → ops_of s ≡ None
ops_off s h e = ops_step s h ∙ opt_none _ _ e

-- ---- what `op_at` finds, a law for each of its answers, over the numbers that it reads at a place

module _ (s : Bytes) (at : ℕ) where
  no_room : length s - at < op_size (drop at s) → op_at (drop at s) ≡ None
  unfolding op_at op_size
  no_room h =
      let l : length (drop at s) < size (key_size (drop at s)) (value_size (drop at s)) = omega (arith, length-drop at s) in
      pick_no _ _ (lt-leb _ _ l)

  pub is_over : length s ≤ at → op_at (drop at s) ≡ None
  is_over h = no_room (omega (arith, size_some (drop at s)))

  pub is_short : length s - at < head_size → op_at (drop at s) ≡ None
  is_short h = no_room (omega (arith, size_some (drop at s)))

  module _ {k v : ℕ} (ek : k ≡ get_or s (at + 8) 0) (ev : v ≡ le16_at s (at + 6)) where
    key_there : key_size (drop at s) ≡ k
    key_there = get_or-drop at s 8 0 ∙ sym ek

    value_there : value_size (drop at s) ≡ v
    value_there = le16_further s at 6 ∙ sym ev

    sized : op_size (drop at s) ≡ size k v
    unfolding op_size
    sized = ap₂ size key_there value_there

    module _ {n : ℕ} (en : n ≡ size k v) where
      pub is_cut : length s - at < n → op_at (drop at s) ≡ None
      is_cut h = no_room (omega (arith, sized, en, h))

      module _ (room : n ≤ length s - at) where
        tests : op_at (drop at s)
            ≡ pick (agrees put_kind k v (drop at s)) (Some (Put (item_at k v (drop at s)).key (item_at k v (drop at s)).value))
            (pick (agrees delete_kind k 0 (drop at s)) (Some (Delete (item_at k 0 (drop at s)).key)) None)
        unfolding op_at
        tests =
            let w : size k v ≤ length (drop at s) = omega (arith, length-drop at s) in
            rw (key_there, value_there) (pick_yes _ _ (le-leb _ _ w))

        stands : at < length s → (o : ListOp) {w : ℕ} → w ≤ v → o.key.now ≡ key_at s at k → o.value.now ≡ value_at s at k w → o.next ≡ at + n
            → op_at (drop at s) ≡ Some (op_as o.kind (key_at s at k) (value_at s at k w)) → (o.kind ≡ K.Delete → w ≡ 0) → Met s at o
        unfolding size key_at value_at
        stands h o {w} m eo eq ew is bare =
            let lk : length o.key.now ≡ k = ap length eo ∙ simp (length-take, length-drop) (omega arith) in
            let lv : length o.value.now ≡ w = ap length eq ∙ simp (length-take, length-drop) (omega arith) in
            record {
              op = is ∙ ap₂ (λ (x y : Bytes). Some (op_as o.kind x y)) (sym eo) (sym eq);
              key_is = eo ∙ ap (key_at s at) (sym lk);
              value_is = eq ∙ ap₂ (value_at s at) (sym lk) (sym lv);
              next_is = ew ∙ ap (λ (m : ℕ). at + m) (en ∙ sym sized);
              holds = omega arith;
              inside = omega arith;
              bare = λ e. eq ∙ ap (value_at s at k) (bare e);
            }

        module _ {p : Bool} (ep : p ≡ agrees put_kind k v (drop at s)) where
          pub is_put : at < length s → (o : ListOp) → o.kind ≡ K.Put → o.key.now ≡ key_at s at k → o.value.now ≡ value_at s at k v → o.next ≡ at + n
              → p ≡ true → Met s at o
          unfolding op_as
          is_put h o e eo eq ew y =
              let t : op_at (drop at s) ≡ Some (op_as K.Put (key_at s at k) (value_at s at k v)) =
              tests ∙ pick_yes _ _ (sym ep ∙ y) ∙ ap (λ (i : Item). Some (Put i.key i.value)) (item_there s at k v) in
              stands h o (le_refl _) eo eq ew (t ∙ ap (λ (x : OpKind). Some (op_as x (key_at s at k) (value_at s at k v))) (sym e))
              (λ d. let z : K.Put ≡ K.Delete = sym e ∙ d in cc)

          module _ (np : p ≡ false) {d : Bool} (ed : d ≡ agrees delete_kind k 0 (drop at s)) where
            pub is_delete : at < length s → (o : ListOp) → o.kind ≡ K.Delete → o.key.now ≡ key_at s at k → o.value.now ≡ value_at s at k 0 → o.next ≡ at + n
                → d ≡ true → Met s at o
            unfolding op_as
            is_delete h o e eo eq ew y =
                let t : op_at (drop at s) ≡ Some (op_as K.Delete (key_at s at k) (value_at s at k 0)) =
                tests ∙ pick_no _ _ (sym ep ∙ np) ∙ pick_yes _ _ (sym ed ∙ y) ∙ ap (λ (i : Item). Some (Delete i.key)) (item_there s at k 0) in
                stands h o (omega arith) eo eq ew (t ∙ ap (λ (x : OpKind). Some (op_as x (key_at s at k) (value_at s at k 0))) (sym e)) (λ d. refl)

            pub is_neither : d ≡ false → op_at (drop at s) ≡ None
            is_neither f = tests ∙ pick_no _ _ (sym ep ∙ np) ∙ pick_no _ _ (sym ed ∙ f)

-- those that find none
pub ruleset finds_none = (is_over, is_short, is_cut, is_neither)
