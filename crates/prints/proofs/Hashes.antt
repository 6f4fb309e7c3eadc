-- A key's hash as the code goes along it, two bytes a turn; and a class is one of the n.
use Rattle.std.specs.Prelude.{◌≡◌, ℕ, ◌+◌, ◌-◌, ◌*◌, ◌%◌, ◌≤◌, ◌<◌, [], ◌∷◌, length, get_or, take, drop}
use Rattle.std.proofs.Common.{sym, ap, ap₂, ◌∙◌, arith}
use Rattle.std.proofs.Math.Nat.{mul_comm, mul-le-mul_right, mul-lt-mul_of_pos_right, div-lt_iff_lt-mul}
use Rattle.definition.specs.Tools.{Bytes}
use Rattle.std.proofs.lemmas.List.{take_rest}
use Rattle.prints.specs.Prints.{mixed, hash_from, most_classes, class_of}

pub hash_two : (h : ℕ) (s : Bytes) {x y : ℕ} → 2 ≤ length s → x ≡ get_or s 0 0 + get_or s 1 0 * 256 → y ≡ mixed h x
    → hash_from h s ≡ hash_from y (take (length s - 2) (drop 2 s))
unfolding hash_from
hash_two h [] l e f = absurd (omega arith)
hash_two h (a ∷ []) l e f = absurd (omega arith)
hash_two h (a ∷ b ∷ s) l e f = ap₂ hash_from (sym (f ∙ ap (mixed h) e)) (sym (take_rest (a ∷ b ∷ s) 2))

pub class_fits : (n h : ℕ) → h % most_classes * n ≤ most_classes * n
class_fits n h = mul-le-mul_right n (omega arith)

-- a class of n is below n
pub class_below : (n h : ℕ) → 0 < n → class_of n h < n
unfolding class_of
class_below n h l =
    let r : h % most_classes < most_classes = omega arith in
    let m : h % most_classes * n < most_classes * n = mul-lt-mul_of_pos_right r l in
    let e : most_classes * n ≡ n * most_classes = mul_comm most_classes n in
    let z : 0 < most_classes = omega arith in
    let b : h % most_classes * n < n * most_classes = omega arith in
    (div-lt_iff_lt-mul z).1 b
