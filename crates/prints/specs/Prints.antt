-- A key's hash, and a table of prints: what the table says of a hash, and what is true after one is noted. No answer
-- of the image test depends on what a hash is, only on equal keys having equal ones; so nothing here has to be
-- believed.
use Rattle.std.specs.Prelude.{◌≡◌, Bool, true, false, [], ◌∷◌, ℕ, zero, suc, ◌+◌, ◌*◌, ◌/◌, ◌%◌, length, get_or, eqb}
use Rattle.definition.specs.Tools.{Bytes, pick}

-- ---- a key's hash

-- a hash is below this
abbrev pub word : ℕ
word = 4294967296

abbrev pub spread : ℕ
spread = 2654435769

unfoldable pub mixed : ℕ → ℕ → ℕ
mixed h x = (h + x) * spread / 256 % word

unfoldable pub finished : ℕ → ℕ
finished h = (h + h / 32768) * spread % word

-- two bytes at a time
unfoldable pub hash_from : ℕ → Bytes → ℕ
hash_from h [] = h
hash_from h (a ∷ []) = mixed h a
hash_from h (a ∷ b ∷ s) = hash_from (mixed h (a + b * 256)) s

unfoldable pub hash_of : Bytes → ℕ
hash_of k = finished (hash_from (length k % word) k)

-- ---- the parts of a hash: its class of n, its first place in a table, its print

abbrev pub most_classes : ℕ
most_classes = 4096

unfoldable pub class_of : ℕ → ℕ → ℕ
class_of n h = h % most_classes * n / most_classes

abbrev pub first_place : ℕ → ℕ
first_place h = h / 524288

-- never 0, which is a gap
abbrev pub print_of : ℕ → ℕ
print_of h = h / 4096 % 255 + 1

-- ---- a table: 8192 first places, and behind the last as many more as a look goes along

abbrev pub look_length : ℕ
look_length = 16

abbrev pub table_size : ℕ
table_size = 8208

-- whether the print f may have been noted at i or behind it, n places in all: prints stand there without a gap, and a
-- look that met neither the print nor a gap cannot tell
unfoldable pub holds : ℕ → Bytes → ℕ → ℕ → Bool
holds zero t i f = true
holds (suc n) t i f = pick (eqb (get_or t i 0) 0) false (pick (eqb (get_or t i 0) f) true (holds n t (i + 1) f))

unfoldable pub noted : Bytes → ℕ → Bool
noted t h = holds look_length t (first_place h) (print_of h)

-- noting h in t leaves u, and r says whether h may have been noted before
pub record Notes (t : Bytes) (h : ℕ) (u : Bytes) (r : Bool) : Type 0 where
  pub answer : r ≡ noted t h
  pub now_noted : noted u h ≡ true
  pub long : length u ≡ length t
  pub kept : (g : ℕ) → noted t g ≡ true → noted u g ≡ true
