-- Places and windows: the items that stand there, an index at a time, and a place put into a window.
use mathlib.Core.Path.{◌≡◌, refl, sym, ap, ap₂, ◌∙◌, subst}
use mathlib.Core.Bool.{Bool, true, false}
use mathlib.Core.List.{List, [], ◌∷◌, ◌++◌, append_assoc}
use Prim.Native.Nat.{ℕ, zero, suc, ◌+◌, ◌≤◌, ◌<◌}
use native.Mathlib.Numerals.{add-one}
use native.Mathlib.Omega.{arith}
use borrow.Author.Tests.{lt-ltb, le-ltb}
use lib.Pointwise.{pointwise}
use lib.Dec.{eqb}
use lib.ListN.{length, get_or, take, drop, set, length-append, length-take, length-drop, length-set, drop_of_length-le}
use lib.Seq.{drop-cons, drop-drop, take-take, take_all, take_at, take-suc-set, take-set-lt, drop-set-lt, get_or-take, length-take-le}
use Rattle.definition.specs.Tools.{Bytes, pick}
use Rattle.definition.specs.Region.{Item, item, size, span, span_of, record_of}
use Rattle.definition.specs.Codec.{order, reserved, value_limit, long_value}
use Rattle.definition.specs.declared.Fault.TheVariants.{CapacityExceeded}
use Rattle.definition.specs.declared.CapacityKind.TheVariants.{Value}
use Rattle.codec.specs.Forms.{checked_of}
use Rattle.std.specs.declared.cmp.Ordering.{Ordering}
use Rattle.std.specs.declared.cmp.Ordering.TheVariants.{Less, Equal, Greater}
use Rattle.std.specs.Ordering.{is_lt}
use Rattle.definition.specs.Scan.{is_less, rising, begins, insert, window_size, last_of, beyond, matches, overlong, keep, advances}
use Rattle.definition.proofs.Choices.{bool, pick_yes, pick_no, opt_none, opt_some}
use Rattle.definition.proofs.Records.{record_length}
use Rattle.region.specs.Places.{key_at, value_at}
use Rattle.region.specs.declared.Place.{Place}
use Rattle.std.specs.Prelude.{Option, Some, None, Ok, Err}
use Rattle.slices.specs.Written.{written}
use Rattle.windows.specs.declared.ScanWindow.{ScanWindow}
use Rattle.windows.specs.Forms.{Direction, place_key, place_item, Held, place_items, AllHeld, last_key, LastHeld, Lasts, filled, window_items, Sane, Holds, put, Parts}
use Rattle.definition.proofs.Windows.{last_of_end, insert_on, insert_here, insert_last}

-- ---- a place

module _ {s : Bytes} {p : Place} (h : Held s p) where
  pub key_length_is : length (place_key s p) ≡ p.klen
  unfolding key_at
  key_length_is = let w = h.within in simp (length-take, length-drop) (omega arith)

  pub value_length : length (value_at s p.at p.klen p.vlen) ≡ p.vlen
  unfolding value_at
  value_length = let w = h.within in simp (length-take, length-drop) (omega arith)

  -- a record that is handed out has no filling
  pub record_size : length (record_of (place_item s p)) ≡ size p.klen p.vlen
  unfolding place_item span_of span
  record_size = record_length (place_item s p) ∙ ap₂ size key_length_is value_length

  module _ {k v : Bytes} (ek : k ≡ place_key s p) (ev : v ≡ value_at s p.at p.klen p.vlen) where
    item_read : item k v ≡ place_item s p
    unfolding place_item
    item_read = ap₂ item ek ev

    pub item_written : (out : Bytes) (at : ℕ) {r : Bytes} → r ≡ written out at (record_of (item k v)) → r ≡ written out at (record_of (place_item s p))
    item_written out at e = e ∙ ap (λ (i : Item). written out at (record_of i)) item_read

    pub item_fits : (at room : ℕ) → at + length (record_of (place_item s p)) ≤ room
        → ((length k < 256) × (length v < 65536)) × (at + span_of (item k v) ≤ room)
    item_fits at room l =
        let lk = ap length ek ∙ key_length_is in
        let lv = ap length ev ∙ value_length in
        let a = h.short in
        let b = h.small in
        let e : span_of (item k v) ≡ length (record_of (place_item s p)) = ap span_of item_read ∙ sym (record_length (place_item s p)) in
        ((omega arith, omega arith), omega arith)

-- ---- the tests

pub begins_is : (p k : Bytes) → pointwise eqb p (take (length p) k) ≡ begins p k
unfolding begins pick
begins_is [] k = refl
begins_is (a ∷ p) [] = refl
begins_is (a ∷ p) (b ∷ k) = bool (eqb a b) (λ t. rw t (begins_is p k)) (λ f. rw f)

lt_less : (o : Ordering) → is_lt o ≡ is_less o
unfolding is_less
lt_less Less = refl
lt_less Equal = refl
lt_less Greater = refl

pub rising_is : (a b : Bytes) {o : Ordering} {r : Bool} → o ≡ order a b → r ≡ is_lt o → r ≡ rising a b
unfolding rising
rising_is a b {o} e f = f ∙ lt_less o ∙ ap is_less e

module _ (before : Direction) (s key : Bytes) {last : Option Place} where
  pub beyond_at : {p : Place} {k : Bytes} {b : Bool} → last ≡ Some p → k ≡ place_key s p → b ≡ before k key → b ≡ beyond before (last_key s last) key
  unfolding beyond last_key
  beyond_at e ek eb = eb ∙ ap (λ (x : Bytes). before x key) ek ∙ sym (ap (λ (x : Option Place). beyond before (last_key s x) key) e)

  pub beyond_none : last ≡ None → true ≡ beyond before (last_key s last) key
  unfolding beyond last_key
  beyond_none e = sym (ap (λ (x : Option Place). beyond before (last_key s x) key) e)

pub last_held : (s : Bytes) {last : Option Place} {p : Place} → LastHeld s last → last ≡ Some p → Held s p
last_held s h e = subst (LastHeld s) e h

module _ (s : Bytes) (p : Place) (prefix : Bytes) {k : Bytes} (ek : k ≡ place_key s p) {r : Bool} (er : r ≡ reserved k) where
  pub skips : r ≡ true → false ≡ matches prefix (place_item s p)
  unfolding matches place_item
  skips t = sym (pick_yes _ _ (sym (er ∙ ap reserved ek) ∙ t))

  pub tests : {b : Bool} → r ≡ false → b ≡ begins prefix k → b ≡ matches prefix (place_item s p)
  unfolding matches place_item
  tests f e = e ∙ ap (begins prefix) ek ∙ sym (pick_no _ _ (sym (er ∙ ap reserved ek) ∙ f))

module _ (s : Bytes) (p : Place) (prefix : Bytes) {m : Bool} (em : m ≡ matches prefix (place_item s p)) where
  pub long_skipped : m ≡ false → Ok tt ≡ checked_of (overlong prefix (place_item s p))
  unfolding overlong checked_of
  long_skipped f = sym (ap checked_of (pick_no _ _ (sym em ∙ f)))

  module _ (h : Held s p) (t : m ≡ true) where
    pub long_refused : value_limit < p.vlen → Err (CapacityExceeded Value p.vlen value_limit) ≡ checked_of (overlong prefix (place_item s p))
    unfolding overlong checked_of long_value place_item
    long_refused l =
        let e = value_length h in
        let y : value_limit < length (place_item s p).value = omega arith in
        sym (ap checked_of (pick_yes _ _ (sym em ∙ t) ∙ pick_yes _ _ (lt-ltb _ _ y)) ∙ ap (λ (n : ℕ). Err (CapacityExceeded Value n value_limit)) e)

    pub long_fine : p.vlen ≤ value_limit → Ok tt ≡ checked_of (overlong prefix (place_item s p))
    unfolding overlong checked_of long_value place_item
    long_fine l =
        let e = value_length h in
        let y : length (place_item s p).value ≤ value_limit = omega arith in
        sym (ap checked_of (pick_yes _ _ (sym em ∙ t) ∙ pick_no _ _ (le-ltb _ _ y)))

module _ (before : Direction) {s : Bytes} {w : ScanWindow} (g : Sane s w) (last : Option Place) {r : Option Place} (h : Lasts s (last_of (last_key s None) (window_items s w)) r) where
  pub advances_at : {p : Place} {k : Bytes} {b : Bool} → r ≡ Some p → k ≡ place_key s p → b ≡ beyond before (last_key s last) k
      → b ≡ advances before (last_key s last) (window_items s w)
  unfolding advances last_key
  advances_at e ek eb =
      eb ∙ ap (beyond before (last_key s last)) ek ∙ sym (opt_some true (beyond before (last_key s last)) (sym h.is ∙ ap (last_key s) e))

  pub advances_none : r ≡ None → true ≡ advances before (last_key s last) (window_items s w)
  unfolding advances last_key
  advances_none e = sym (opt_none true (beyond before (last_key s last)) (sym h.is ∙ ap (last_key s) e))

-- ---- a record that was met, kept or not

module _ (before : Direction) (s : Bytes) (w : ScanWindow) (p : Place) (prefix : Bytes) (last : Option Place) {m : Bool} (em : m ≡ matches prefix (place_item s p)) where
  pub keep_skipped : Sane s w → m ≡ false → Holds s (keep before prefix (last_key s last) (place_item s p) (window_items s w)) w
  unfolding keep
  keep_skipped g f =
      record { sane = g; is = sym (pick_no _ _ (pick_no _ _ (sym em ∙ f))) }

  module _ {k : Bytes} {b : Bool} (t : m ≡ true) (ek : k ≡ place_key s p) (eb : b ≡ beyond before (last_key s last) k) where
    to_come : pick (matches prefix (place_item s p)) (beyond before (last_key s last) (place_item s p).key) false ≡ b
    unfolding place_item
    to_come = pick_yes _ _ (sym em ∙ t) ∙ sym (eb ∙ ap (beyond before (last_key s last)) ek)

    pub keep_behind : Sane s w → b ≡ false → Holds s (keep before prefix (last_key s last) (place_item s p) (window_items s w)) w
    unfolding keep
    keep_behind g f = record { sane = g; is = sym (pick_no _ _ (to_come ∙ f)) }

    pub keep_offered : {r : ScanWindow} → b ≡ true → Holds s (take window_size (insert before (place_item s p) (window_items s w))) r → Holds s (keep before prefix (last_key s last) (place_item s p) (window_items s w)) r
    unfolding keep
    keep_offered y o = record { sane = o.sane; is = o.is ∙ sym (pick_yes _ _ (to_come ∙ y)) }

-- ---- places

module _ (s : Bytes) where
  pub items_length : (ps : List Place) → length (place_items s ps) ≡ length ps
  unfolding place_items
  items_length [] = refl
  items_length (p ∷ ps) = ap suc (items_length ps)

  pub items_take : (n : ℕ) (ps : List Place) → place_items s (take n ps) ≡ take n (place_items s ps)
  unfolding place_items
  items_take zero ps = refl
  items_take (suc n) [] = refl
  items_take (suc n) (p ∷ ps) = ap (λ (l : List Item). place_item s p ∷ l) (items_take n ps)

  pub items_drop : (n : ℕ) (ps : List Place) → place_items s (drop n ps) ≡ drop n (place_items s ps)
  unfolding place_items
  items_drop zero ps = refl
  items_drop (suc n) [] = refl
  items_drop (suc n) (p ∷ ps) = items_drop n ps

  items_append : (a b : List Place) → place_items s (a ++ b) ≡ place_items s a ++ place_items s b
  unfolding place_items
  items_append [] b = refl
  items_append (p ∷ a) b = ap (λ (l : List Item). place_item s p ∷ l) (items_append a b)

  items_put : (n : ℕ) (p : Place) (ps : List Place) → place_items s (put n p ps) ≡ put n (place_item s p) (place_items s ps)
  unfolding place_items
  items_put n p ps =
      items_append (take n ps) (p ∷ drop n ps)
      ∙ ap₂ (λ (a b : List Item). a ++ (place_item s p ∷ b)) (items_take n ps) (items_drop n ps)

  held_take : (n : ℕ) (ps : List Place) → AllHeld s ps → AllHeld s (take n ps)
  held_take zero ps h = tt
  held_take (suc n) [] h = tt
  held_take (suc n) (p ∷ ps) h = (h.0, held_take n ps h.1)

  held_drop : (n : ℕ) (ps : List Place) → AllHeld s ps → AllHeld s (drop n ps)
  held_drop zero ps h = h
  held_drop (suc n) [] h = tt
  held_drop (suc n) (p ∷ ps) h = held_drop n ps h.1

  held_append : (a b : List Place) → AllHeld s a → AllHeld s b → AllHeld s (a ++ b)
  held_append [] b h k = k
  held_append (p ∷ a) b h k = (h.0, held_append a b h.1 k)

  held_at : (ps : List Place) (i : ℕ) (d : Place) → AllHeld s ps → i < length ps → Held s (get_or ps i d)
  held_at [] i d h l = absurd (omega arith)
  held_at (p ∷ ps) zero d h l = h.0
  held_at (p ∷ ps) (suc i) d h l = held_at ps i d h.1 (omega arith)

-- ---- a window, an index at a time

abbrev pub no_place : Place
no_place = record { at = 0; klen = 0; vlen = 0 }

pub sane_empty : (s : Bytes) {w : ScanWindow} → length w.places ≡ window_size → w.len ≡ 0 → Sane s w
sane_empty s {w} e z =
    record { eight = e; most = omega arith; held = subst (λ (n : ℕ). AllHeld s (take n w.places)) (sym z) tt }

pub empty_holds : (s : Bytes) (w : ScanWindow) → w.len ≡ 0 → window_items s w ≡ []
unfolding window_items place_items
empty_holds s w z = ap (λ (n : ℕ). place_items s (take n w.places)) z

module _ {s : Bytes} {w : ScanWindow} (h : Sane s w) where
  pub filled_length : length (filled w) ≡ w.len
  filled_length = let e = h.eight in let m = h.most in length-take-le w.len w.places (omega arith)

  pub window_length : length (window_items s w) ≡ w.len
  unfolding window_items
  window_length = items_length s (filled w) ∙ filled_length

  module _ {i : ℕ} (l : i < w.len) where
    window_get : get_or (filled w) i no_place ≡ get_or w.places i no_place
    window_get = get_or-take w.len w.places i no_place l

    pub window_held : Held s (get_or w.places i no_place)
    window_held = subst (Held s) window_get (held_at s (filled w) i no_place h.held (let e = filled_length in omega arith))

    pub window_at : drop i (window_items s w) ≡ place_item s (get_or w.places i no_place) ∷ drop (i + 1) (window_items s w)
    unfolding window_items place_items
    window_at =
        let e = filled_length in
        sym (items_drop s i (filled w))
        ∙ ap (place_items s) (drop-cons (filled w) i no_place (omega arith))
        ∙ ap₂ (λ (p : Place) (l : List Item). place_item s p ∷ l) window_get
        (items_drop s (suc i) (filled w) ∙ ap (λ (n : ℕ). drop n (place_items s (filled w))) (sym (add-one i)))

  -- a turn over the places in use
  pub turns_over : {i : ℕ} → length (filled w) ≤ i → w.len ≤ i
  turns_over l = let e = filled_length in omega arith

  module _ {i : ℕ} (l : i < length (filled w)) where
    pub turn_inside : i < w.len
    turn_inside = let e = filled_length in omega arith

    turn_place : get_or (filled w) i no_place ≡ get_or w.places i no_place
    turn_place = window_get turn_inside

    pub turn_held : Held s (get_or (filled w) i no_place)
    turn_held = subst (Held s) (sym turn_place) (window_held turn_inside)

    pub turn_key : {k : Bytes} → k ≡ place_key s (get_or (filled w) i no_place) → k ≡ place_key s (get_or w.places i no_place)
    turn_key e = e ∙ ap (place_key s) turn_place

    pub turn_at : drop i (window_items s w) ≡ place_item s (get_or (filled w) i no_place) ∷ drop (i + 1) (window_items s w)
    turn_at = window_at turn_inside ∙ ap (λ (p : Place). place_item s p ∷ drop (i + 1) (window_items s w)) (sym turn_place)

  -- the last one
  pub window_last : (last : Option Place) (n : ℕ) → n + 1 ≡ w.len → Lasts s (last_of (last_key s last) (window_items s w)) (Some (get_or w.places n no_place))
  unfolding last_key place_item
  window_last last n e =
      let l : n < w.len = omega arith in
      let none_left : drop (n + 1) (window_items s w) ≡ [] = drop_of_length-le (window_items s w) {i = n + 1} (let q = window_length in omega arith) in
      record {
        held = window_held l;
        is =
            sym (last_of_end (last_key s last) (window_items s w) n
            (window_at l ∙ ap (λ (t : List Item). place_item s (get_or w.places n no_place) ∷ t) none_left));
      }

  pub window_none : (last : Option Place) → LastHeld s last → w.len ≡ 0 → Lasts s (last_of (last_key s last) (window_items s w)) last
  unfolding last_of
  window_none last g z = record { held = g; is = sym (ap (last_of (last_key s last)) (empty_holds s w z)) }

-- ---- where a key belongs

-- the items before `i` come before the key
pub record Passed (before : Direction) (key : Bytes) (kept : List Item) (i : ℕ) : Type 0 where
  pub within : i ≤ length kept
  pub on : (v : Bytes) → insert before (item key v) kept ≡ take i kept ++ insert before (item key v) (drop i kept)

pub passed_none : {before : Direction} (key : Bytes) (is : List Item) → Passed before key is 0
passed_none key is = record { within = omega arith; on = λ v. refl }

module _ {before : Direction} {s key : Bytes} {w : ScanWindow} {i : ℕ} (g : Sane s w) (h : Passed before key (window_items s w) i) where
  module _ {b : Bool} {k : Bytes} (l : i < w.len) (ek : k ≡ place_key s (get_or w.places i no_place)) (eb : b ≡ before k key) where
    is_before : before (place_key s (get_or w.places i no_place)) key ≡ b
    is_before = sym (eb ∙ ap (λ (x : Bytes). before x key) ek)

    pub passed_on : b ≡ true → Passed before key (window_items s w) (i + 1)
    unfolding place_item
    passed_on t =
        record {
          within = let e = window_length g in omega arith;
          on = λ v. h.on v ∙ insert_on before (item key v) (window_items s w) i (window_at g l) (is_before ∙ t);
        }

    pub passed_here : b ≡ false → Parts before key (window_items s w) i
    unfolding place_item
    passed_here f =
        record {
          within = h.within;
          at = λ v. h.on v ∙ insert_here before (item key v) (window_items s w) i (window_at g l) (is_before ∙ f);
        }

  pub passed_all : w.len ≤ i → Parts before key (window_items s w) i
  passed_all l =
      record {
        within = h.within;
        at = λ v. h.on v ∙ insert_last before (item key v) (window_items s w) i (let e = window_length g in omega arith);
      }

-- ---- a place put in

-- those from `at` on have moved up as far as i, and the one that stood there is carried
pub record Shifted {A : Type 0} (at : ℕ) (x : A) (start : List A) (len : ℕ) (now : List A) (carried : A) (i : ℕ) : Type 0 where
  pub from : at ≤ i
  pub to : i ≤ len
  pub eight : length now ≡ window_size
  pub is : take i now ++ (carried ∷ drop i (take len start)) ≡ put at x (take len start)
  pub rest : drop i (take len now) ≡ drop i (take len start)

pub shifted_none : {A : Type 0} (at : ℕ) (x : A) (start : List A) (len : ℕ) → length start ≡ window_size → at ≤ len → Shifted at x start len start x at
shifted_none at x start len e l =
    record {
      from = omega arith;
      to = l;
      eight = e;
      is = ap (λ (a : List _). a ++ (x ∷ drop at (take len start))) (sym (take-take at len start l));
      rest = refl;
    }

module _ {A : Type 0} {at : ℕ} {x : A} {start : List A} {len : ℕ} {now : List A} {carried : A} {i : ℕ} (m : len ≤ window_size) (h : Shifted at x start len now carried i) where
  pub shifted_eight : length (set now i carried) ≡ window_size
  shifted_eight = length-set now i carried ∙ h.eight

  pub shifted_on : (d : A) → i < len → Shifted at x start len (set now i carried) (get_or now i d) (i + 1)
  shifted_on d l =
      let f = h.from in
      let e8 = h.eight in
      let ln : i < length now = omega arith in
      let lt : length (take len now) ≡ len = length-take-le len now (omega arith) in
      let old : drop i (take len start) ≡ get_or now i d ∷ drop (suc i) (take len now) =
      sym h.rest ∙ drop-cons (take len now) i d (omega arith) ∙ ap (λ (a : A). a ∷ drop (suc i) (take len now)) (get_or-take len now i d l) in
      let rest : drop (suc i) (take len now) ≡ drop (suc i) (take len start) =
      ap (λ (n : ℕ). drop n (take len now)) (sym (add-one i)) ∙ sym (drop-drop 1 i (take len now)) ∙ ap (drop 1) h.rest
      ∙ drop-drop 1 i (take len start) ∙ ap (λ (n : ℕ). drop n (take len start)) (add-one i) in
      record {
        from = omega arith;
        to = omega arith;
        eight = shifted_eight;
        is = rw (add-one, take-suc-set now i carried ln)
            (append_assoc (take i now) (carried ∷ []) (get_or now i d ∷ drop (suc i) (take len start))
            ∙ ap (λ (t : List A). take i now ++ (carried ∷ t)) (ap (λ (t : List A). get_or now i d ∷ t) (sym rest) ∙ sym old)
            ∙ h.is);
        rest = rw add-one (ap (drop (suc i)) (take-set-lt len now i carried l) ∙ drop-set-lt (suc i) (take len now) i carried (omega arith) ∙ rest);
      }

  nothing_left : len ≤ i → drop i (take len start) ≡ []
  nothing_left l = drop_of_length-le (take len start) {i = i} (simp length-take (omega arith))

  all_put : len ≤ i → put at x (take len start) ≡ take i now ++ (carried ∷ [])
  all_put l = sym h.is ∙ ap (λ (t : List A). take i now ++ (carried ∷ t)) (nothing_left l)

  front : length (take i now) ≡ i
  front = let t = h.to in let e = h.eight in length-take-le i now (omega arith)

  pub shifted_room : len ≤ i → i < window_size → take (i + 1) (set now i carried) ≡ take window_size (put at x (take len start))
  shifted_room l r =
      let e8 = h.eight in
      rw (add-one, take-suc-set now i carried (omega arith))
      (sym (ap (take window_size) (all_put l)
      ∙ take_all window_size (take i now ++ (carried ∷ [])) (let f = front in simp length-append (omega arith))))

  pub shifted_full : len ≤ i → window_size ≤ i → take i now ≡ take window_size (put at x (take len start))
  shifted_full l r =
      let t = h.to in
      let e : i ≡ window_size = omega arith in
      sym (ap (take window_size) (all_put l) ∙ take_at (take i now) (carried ∷ []) window_size (front ∙ e))

module _ {before : Direction} {s : Bytes} {w r : ScanWindow} {p : Place} {k : Bytes} {n : ℕ} (g : Sane s w) (h : Held s p) (ek : k ≡ place_key s p) (at : Parts before k (window_items s w) n) where
  pub offered : (length r.places ≡ window_size) × (r.len ≤ window_size) × (filled r ≡ take window_size (put n p (filled w)))
      → Holds s (take window_size (insert before (place_item s p) (window_items s w))) r
  unfolding window_items place_item
  offered e =
      record {
        sane =
            record {
              eight = e.0;
              most = e.1;
              held =
                  subst (AllHeld s) (sym e.2)
                  (held_take s window_size (put n p (filled w))
                  (held_append s (take n (filled w)) (p ∷ drop n (filled w)) (held_take s n (filled w) g.held) (h, held_drop s n (filled w) g.held)));
            };
        is =
            ap (place_items s) e.2 ∙ items_take s window_size (put n p (filled w))
            ∙ ap (take window_size)
            (items_put s n p (filled w)
            ∙ sym (ap (λ (x : Bytes). insert before (item x (value_at s p.at p.klen p.vlen)) (place_items s (filled w))) (sym ek)
            ∙ at.at (value_at s p.at p.klen p.vlen)
            ∙ ap (λ (x : Bytes). put n (item x (value_at s p.at p.klen p.vlen)) (place_items s (filled w))) ek));
      }
