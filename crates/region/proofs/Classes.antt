-- The image test's walk for a class: none of the keys of its class that it has passed occurs twice, and each has left
-- its print. Where that is so for every class, no key occurs twice.
use mathlib.Core.Path.{◌≡◌, refl, sym, ap, ap₂, ◌∙◌, subst}
use mathlib.Core.Bool.{Bool, true, false, not}
use mathlib.Core.List.{List, [], ◌∷◌, ◌++◌, append-nil}
use Prim.Native.Nat.{ℕ, ◌≤◌, ◌<◌}
use native.Mathlib.Omega.{arith}
use borrow.Author.Tests.{not-true}
use lib.ListN.{length, take, drop}
use lib.Seq.{take-add, take_at}
use Rattle.definition.specs.Tools.{Bytes}
use Rattle.definition.specs.Region.{Item, item, has_key, has, distinct, span, record_of, allowed, blank, items, whole, records}
use Rattle.definition.proofs.Choices.{pick_no, bool, true≢false}
use Rattle.definition.proofs.Records.{record_sound, record_split, record_length}
use Rattle.definition.proofs.Items.{key_of, AllAllowed, allowed_append}
use Rattle.definition.proofs.Image.{parsed, records_append}
use Rattle.prints.specs.Prints.{hash_of, class_of, table_size, noted, Notes}
use Rattle.prints.proofs.Hashes.{class_below}
use Rattle.region.specs.Places.{key_at, value_at, Met, place_of}
use Rattle.std.specs.Prelude.{Option, Some, None, is_some}
use Rattle.region.specs.declared.Place.{Place}
use Rattle.region.specs.Classes.{onto, back, NewIn, Tried}
use Rattle.region.proofs.Walks.{item_there, met_whole, met_span, met_key_length, met_value_length}
use Rattle.region.proofs.Finding.{split, nowhere}
use Rattle.region.proofs.Backwards.{none_of, onto_append, back_back, twice, distinct_back}

-- ---- every class

module _ (n : ℕ) (l : 0 < n) where
  in_each : (d : List Item) → ((c : ℕ) → c < n → NewIn c n d) → distinct d ≡ true
  unfolding distinct
  in_each [] all = refl
  in_each (i ∷ d) all =
      let h : ℕ = hash_of i.key in
      pick_no _ _ ((all (class_of n h) (class_below n h l)).0 refl) ∙ in_each d (λ c q. (all c q).1)

  pub every_class : (is : List Item) → ((c : ℕ) → c < n → NewIn c n (back is)) → distinct is ≡ true
  every_class is all = ap distinct (sym (back_back is)) ∙ distinct_back (back is) (in_each (back is) all)

-- ---- a walk for a class

-- what was passed of the class is noted
abbrev Held : ℕ → ℕ → Bytes → List Item → Type 0
Held c n t [] = Unit {0}
Held c n t (i ∷ d) = (class_of n (hash_of i.key) ≡ c → noted t (hash_of i.key) ≡ true) × Held c n t d

module _ (c n : ℕ) (t : Bytes) where
  held_kept : (u : Bytes) → ((g : ℕ) → noted t g ≡ true → noted u g ≡ true) → (d : List Item) → Held c n t d → Held c n u d
  held_kept u f [] h = tt
  held_kept u f (i ∷ d) h = (λ e. f (hash_of i.key) (h.0 e), held_kept u f d h.1)

  -- what is not noted was not passed
  held_new : (k : Bytes) → class_of n (hash_of k) ≡ c → noted t (hash_of k) ≡ false → (d : List Item) → Held c n t d → has k d ≡ false
  unfolding has
  held_new k e f [] h = refl
  held_new k e f (i ∷ d) h =
      bool (has_key k i)
      (λ y.
      let q = ap hash_of (key_of k i y) in
      absurd (true≢false (sym (ap (noted t) q) ∙ h.0 (ap (class_of n) q ∙ e)) f))
      (λ o. pick_no _ _ o ∙ held_new k e f d h.1)

pub record Walked (s : Bytes) (c n at : ℕ) (t : Bytes) : Type 0 where
  pub done : List Item
  pub are : items s ≡ onto done (items (drop at s))
  pub front : take at s ≡ records (back done)
  pub fit : AllAllowed (back done)
  pub sound : whole (drop at s) ≡ true
  pub inside : at ≤ length s
  pub long : length t ≡ table_size
  pub new : NewIn c n done
  pub held : Held c n t done

pub walked_first : (s t : Bytes) (c n : ℕ) → whole s ≡ true → length t ≡ table_size → Walked s c n 0 t
unfolding onto records
walked_first s t c n w l =
    record { done = []; are = refl; front = refl; fit = tt; sound = w; inside = omega arith; long = l; new = tt; held = tt }

abbrev here : Bytes → ℕ → ℕ → ℕ → Item
here s at k v = item (key_at s at k) (value_at s at k v)

-- the record that was met, as the bytes behind those passed
module _ {s : Bytes} {at k v next : ℕ} (m : Met s at k v next) where
  front_here : take next s ≡ take at s ++ record_of (here s at k v)
  front_here =
      let h = record_sound (drop at s) k v m.head in
      let e = ap record_of (item_there s at k v) in
      let l : length (record_of (here s at k v)) ≡ span k v = record_length (here s at k v) ∙ met_span m in
      ap (λ (x : ℕ). take x s) m.next_is ∙ take-add at (span k v) s
      ∙ ap (λ (x : Bytes). take at s ++ x)
      (ap (take (span k v)) (record_split (drop at s) k v h ∙ ap (λ (x : Bytes). x ++ drop (span k v) (drop at s)) e) ∙ take_at (record_of (here s at k v)) _ (span k v) l)

  fit_here : allowed (length (key_at s at k)) (length (value_at s at k v)) ≡ true
  fit_here = ap₂ allowed (met_key_length m) (met_value_length m) ∙ (record_sound (drop at s) k v m.head).fits

module _ {s : Bytes} {c n at : ℕ} {t : Bytes} (w : Walked s c n at t) where
  before : (whole (take at s) ≡ true) × (items (take at s) ≡ back w.done)
  unfolding blank
  before =
      let p = parsed (back w.done) [] w.fit refl in
      let e : records (back w.done) ++ [] ≡ take at s = append-nil (records (back w.done)) ∙ sym w.front in
      (sym (ap whole e) ∙ p.0, sym (ap items e) ∙ p.1)

  pub walked_whole : {b : Bytes} → b ≡ take at s → whole b ≡ true
  walked_whole e = ap whole e ∙ before.0

  pub walked_stop : items (drop at s) ≡ [] → NewIn c n (back (items s))
  walked_stop e = subst (NewIn c n) (sym (ap back (w.are ∙ ap (onto w.done) e) ∙ back_back w.done)) w.new

  module _ {k v next : ℕ} (m : Met s at k v next) where
    along : items s ≡ onto (here s at k v ∷ w.done) (items (drop next s))
    unfolding onto
    along = w.are ∙ ap (onto w.done) m.left

    pub walked_twice : {b key u : Bytes} {r : Bool} → b ≡ take at s → key ≡ key_at s at k → Tried b key t c n u r → r ≡ false → distinct (items s) ≡ false
    unfolding onto
    walked_twice {b} eb ek p f =
        let e : has (key_at s at k) (back w.done) ≡ true =
        ap (has (key_at s at k)) (sym before.1) ∙ ap (λ (x : Bytes). has (key_at s at k) (items x)) (sym eb)
        ∙ ap (λ (x : Bytes). has x (items b)) (sym ek) ∙ p.old f in
        ap distinct (along ∙ onto_append w.done (here s at k v ∷ items (drop next s))) ∙ twice (back w.done) (items (drop next s)) (here s at k v) e

    pub walked_next : {b key u : Bytes} {r : Bool} → b ≡ take at s → key ≡ key_at s at k → Tried b key t c n u r → r ≡ true → Walked s c n next u
    unfolding onto records
    walked_next {b} {key} {u} eb ek p y =
        let it : Item = here s at k v in
        let k' : Bytes = key_at s at k in
        let q : class_of n (hash_of k') ≡ c → has k' w.done ≡ false =
        λ e.
        bool (noted t (hash_of k'))
        (λ o.
        let f : has k' (back w.done) ≡ false =
        ap (has k') (sym before.1) ∙ ap (λ (x : Bytes). has k' (items x)) (sym eb) ∙ ap (λ (x : Bytes). has x (items b)) (sym ek)
        ∙ p.new y (ap (λ (x : Bytes). class_of n (hash_of x)) ek ∙ e) (ap (λ (x : Bytes). noted t (hash_of x)) ek ∙ o) in
        (none_of k' w.done [] f).0)
        (λ o. held_new c n t k' e o w.done w.held) in
        record {
          done = it ∷ w.done;
          are = along;
          front =
              front_here m
              ∙ sym (ap records (onto_append w.done (it ∷ [])) ∙ records_append (back w.done) (it ∷ [])
              ∙ ap (λ (x : Bytes). records (back w.done) ++ x) (append-nil (record_of it)) ∙ ap (λ (x : Bytes). x ++ record_of it) (sym w.front));
          fit = rw (onto_append w.done (it ∷ [])) (allowed_append (back w.done) (it ∷ []) w.fit (fit_here m, tt));
          sound = sym (met_whole m) ∙ w.sound;
          inside = m.inside;
          long = p.long ∙ w.long;
          new = (q, w.new);
          held = (λ e. ap (λ (x : Bytes). noted u (hash_of x)) (sym ek) ∙ p.held (ap (λ (x : Bytes). class_of n (hash_of x)) ek ∙ e), held_kept c n t u p.kept w.done w.held);
        }

-- ---- a key is tried

module _ {b k t : Bytes} {h q c n : ℕ} (eh : h ≡ hash_of k) (eq : q ≡ class_of n h) where
  pub tried_other : (q ≡ c → ⊥) → Tried b k t c n t true
  tried_other f =
      let o : class_of n (hash_of k) ≡ c → ⊥ = λ e. f (eq ∙ ap (class_of n) eh ∙ e) in
      record {
        long = refl;
        kept = λ g e. e;
        held = λ e. absurd (o e);
        new = λ y e w. absurd (o e);
        old = λ f. absurd (true≢false refl f);
      }

  module _ {u : Bytes} {y : Bool} (p : Notes t h u y) where
    tried : {r : Bool} → (r ≡ true → noted t (hash_of k) ≡ true → has k (items b) ≡ false) → (r ≡ false → has k (items b) ≡ true) → Tried b k t c n u r
    tried f g =
        record {
          long = p.long;
          kept = p.kept;
          held = λ e. ap (noted u) (sym eh) ∙ p.now_noted;
          new = λ r e w. f r w;
          old = g;
        }

    pub tried_first : not y ≡ true → Tried b k t c n u true
    tried_first e =
        tried (λ r w. absurd (true≢false w (ap (noted t) (sym eh) ∙ sym p.answer ∙ not-true y e))) (λ f. absurd (true≢false refl f))

    -- the key is looked for among those before it
    pub tried_found : {f : Option Place} {r : Bool} → f ≡ place_of 0 k (items b) → is_some f ≡ not r → Tried b k t c n u r
    tried_found {f = Some q} {r = true} e er = absurd (true≢false refl er)
    tried_found {f = Some q} {r = false} e er =
        tried (λ y w. absurd (true≢false y refl)) (λ z. (split k (items b) 0 q (sym e)).there)
    tried_found {f = None} {r = true} e er = tried (λ y w. nowhere k (items b) 0 (sym e)) (λ z. absurd (true≢false refl z))
    tried_found {f = None} {r = false} e er = absurd (true≢false er refl)
