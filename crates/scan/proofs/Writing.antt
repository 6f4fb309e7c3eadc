-- The passes of a scan: what is left of them to run, the records written so far, and what each way out comes to.
use mathlib.Core.Path.{◌≡◌, refl, sym, ap, ap₂, ◌∙◌, subst}
use mathlib.Core.Bool.{Bool, true, false}
use mathlib.Core.List.{List, [], ◌∷◌, ◌++◌, append_assoc, append-nil}
use Rattle.std.specs.Prelude.{Option, None, Ok, Err, IfOk}
use Prim.Native.Nat.{ℕ, suc, ◌+◌, ◌-◌, ◌*◌, ◌/◌, ◌≤◌, ◌<◌}
use native.Mathlib.Nat.{add-zero}
use native.Mathlib.Omega.{arith}
use borrow.Author.Tests.{lt-ltb, le-ltb, eq-eqb, ne_eqb}
use lib.Dec.{eqb, ltb}
use lib.ListN.{length, take, drop, length-append, length-take, length-drop, drop_of_length-le}
use lib.Seq.{drop-drop, take_all, take_at, drop-append-add, length-take-le}
use Rattle.definition.specs.Tools.{Bytes, pick}
use Rattle.definition.specs.Codec.{laid}
use Rattle.definition.specs.Region.{Item, good, items, record_of, records}
use Rattle.definition.specs.Program.{Prog, on_p, world, ok, exec, flat}
use Rattle.definition.specs.Calls.{Said, said}
use Rattle.definition.specs.Scan.{matches, window_size, Wrote, more, ended, write, last_of, listing, advances, window_after, on_wrote, passes, scan_from}
use Rattle.definition.specs.declared.Step.{Step}
use Rattle.definition.specs.declared.Fault.TheVariants.{ScanStalled}
use Rattle.definition.specs.declared.Health.{Health}
use Rattle.definition.specs.declared.Health.TheVariants.{Clean}
use Rattle.definition.specs.Answers.{ScanAnswer}
use Rattle.definition.specs.declared.ScanEnd.TheVariants as E
use Rattle.definition.specs.declared.Scanned.{Scanned}
use Rattle.definition.proofs.Choices.{pick_yes, pick_no}
use Rattle.definition.proofs.Image.{good_parts, records_append}
use Rattle.slices.specs.Written.{written}
use Rattle.items.proofs.Along.{runs_ret, Left, left_as, left_end, left_turn, left_else}
use Rattle.scan.specs.declared.Listing.{Listing}
use Rattle.items.specs.declared.Failure.{Failure}
use Rattle.region.specs.declared.Place.{Place}
use Rattle.windows.specs.declared.ScanWindow.{ScanWindow}
use Rattle.windows.specs.Forms.{Direction, last_key, LastHeld, Lasts, window_items, Sane}
use Rattle.scan.specs.Forms.{Passed, pass_run, Passes, Scans}
use Rattle.definition.proofs.Windows.{take_more, Strict, sift, gather_length, sorted_length, sorted, above, kept_sorted, rising_sorted, above_next}
use Rattle.definition.proofs.ScanRuns.{ticks, window_kept, scan_finished}
use Rattle.windows.proofs.Windows.{window_length}

-- ---- the output

-- bytes written behind those that are laid
laid_more : (r e base : Bytes) {o : Bytes} {n : ℕ} → o ≡ laid r base → n ≡ length r → written o n e ≡ laid (r ++ e) base
unfolding laid written
laid_more r e base {o} {n} eo en =
    let rest : Bytes = drop (length r) base in
    let l : length (r ++ e) ≡ length r + length e = length-append r e in
    ap (λ (x : Bytes). take n x ++ (e ++ drop (n + length e) x)) eo
    ∙ ap₂ (λ (x y : Bytes). x ++ (e ++ y)) (take_at r rest n (sym en))
    (ap (λ (m : ℕ). drop (m + length e) (r ++ rest)) en ∙ drop-append-add r rest (length e) ∙ drop-drop (length e) (length r) base ∙ ap (λ (m : ℕ). drop m base) (sym l))
    ∙ sym (append_assoc r e (drop (length (r ++ e)) base))

pub laid_none : (out : Bytes) → out ≡ laid [] out
unfolding laid
laid_none out = refl

-- ---- the records of a window, one a turn: i of them are written since the loop began, whatever was written before

pub record Writing (most : ℕ) (window : List Item) (out₀ : Bytes) (count₀ len₀ : ℕ) (out : Bytes) (count len i : ℕ) : Type 0 where
  pub within : i ≤ length window
  pub same : length out ≡ length out₀
  pub counts : count ≡ count₀ + i
  pub long : len ≡ len₀ + length (records (take i window))
  pub fits : len ≤ length out₀
  pub fewer : count < most
  pub made : (done : List Item) (base : Bytes) → length (records done) ≡ len₀ → out₀ ≡ laid (records done) base → out ≡ laid (records (done ++ take i window)) base
  pub goes : (done : List Item) → length done ≡ count₀ → length (records done) ≡ len₀
      → write (length out₀) most done window ≡ write (length out₀) most (done ++ take i window) (drop i window)

pub writing_start : (most : ℕ) (window : List Item) (out : Bytes) (count len : ℕ) → len ≤ length out → count < most → Writing most window out count len out count len 0
unfolding records
writing_start most window out count len f m =
    record {
      within = omega arith;
      same = refl;
      counts = sym (add-zero count);
      long = sym (add-zero len);
      fits = f;
      fewer = m;
      made = λ done base e q. q ∙ ap (λ (l : List Item). laid (records l) base) (sym (append-nil done));
      goes = λ done e q. ap (λ (l : List Item). write (length out) most l window) (sym (append-nil done));
    }

module _ {most : ℕ} {window : List Item} {out₀ : Bytes} {count₀ len₀ : ℕ} {out : Bytes} {count len i : ℕ} (r : Writing most window out₀ count₀ len₀ out count len i) where
  module _ (done : List Item) where
    pub written_count : length done ≡ count₀ → length (done ++ take i window) ≡ count
    written_count e =
        let w = r.within in
        let c = r.counts in
        omega (arith, length-append done (take i window), length-take-le i window r.within)

    pub written_length : length (records done) ≡ len₀ → length (records (done ++ take i window)) ≡ len
    written_length e =
        let l = r.long in
        omega (arith, ap length (records_append done (take i window)), length-append (records done) (records (take i window)))

  module _ {x : Item} (e : drop i window ≡ x ∷ drop (i + 1) window) {n : ℕ} (en : n ≡ length (record_of x)) where
    one_more : (done : List Item) → done ++ take (i + 1) window ≡ (done ++ take i window) ++ (x ∷ [])
    one_more done = ap (λ (l : List Item). done ++ l) (take_more window i e) ∙ sym (append_assoc done (take i window) (x ∷ []))

    pub more_records : (done : List Item) → records (done ++ take (i + 1) window) ≡ records (done ++ take i window) ++ record_of x
    unfolding records
    more_records done =
        ap records (one_more done) ∙ records_append (done ++ take i window) (x ∷ [])
        ∙ ap (λ (l : Bytes). records (done ++ take i window) ++ l) (append-nil (record_of x))

    module _ (done : List Item) (ec : length done ≡ count₀) (el : length (records done) ≡ len₀) where
      -- the tests of the next record, in the definition's words
      next : write (length out₀) most done window
          ≡ pick (ltb (length out₀) (length (records (done ++ take i window)) + length (record_of x))) (ended (Ok E.NoRoom) (done ++ take i window))
          (pick (eqb (length (done ++ take i window) + 1) most) (ended (Ok E.Stopped) ((done ++ take i window) ++ (x ∷ [])))
          (write (length out₀) most ((done ++ take i window) ++ (x ∷ [])) (drop (i + 1) window)))
      unfolding write
      next = r.goes done ec el ∙ ap (write (length out₀) most (done ++ take i window)) e

      pub writing_full : length out - len < n → write (length out₀) most done window ≡ ended (Ok E.NoRoom) (done ++ take i window)
      writing_full f =
          let s = r.same in
          let k = r.fits in
          let l = written_length done el in
          let t : length out₀ < length (records (done ++ take i window)) + length (record_of x) = omega arith in
          next ∙ pick_yes _ _ (lt-ltb _ _ t)

      module _ (f : n ≤ length out - len) where
        fits_in : write (length out₀) most done window
            ≡ pick (eqb (count + 1) most) (ended (Ok E.Stopped) (done ++ take (i + 1) window)) (write (length out₀) most (done ++ take (i + 1) window) (drop (i + 1) window))
        fits_in =
            let s = r.same in
            let k = r.fits in
            let l = written_length done el in
            let t : length (records (done ++ take i window)) + length (record_of x) ≤ length out₀ = omega arith in
            next ∙ pick_no _ _ (le-ltb _ _ t)
            ∙ ap₂ (λ (c : ℕ) (d : List Item). pick (eqb (c + 1) most) (ended (Ok E.Stopped) d) (write (length out₀) most d (drop (i + 1) window)))
            (written_count done ec) (sym (one_more done))

        pub writing_stops : count + 1 ≡ most → write (length out₀) most done window ≡ ended (Ok E.Stopped) (done ++ take (i + 1) window)
        writing_stops m = fits_in ∙ pick_yes _ _ (eq-eqb _ _ m)

        writing_goes : (count + 1 ≡ most → ⊥) → write (length out₀) most done window ≡ write (length out₀) most (done ++ take (i + 1) window) (drop (i + 1) window)
        writing_goes m = fits_in ∙ pick_no _ _ (ne_eqb _ _ m)

    module _ {after : Bytes} (ea : after ≡ written out len (record_of x)) (same_length : length after ≡ length out) where
      pub written_made : (done : List Item) (base : Bytes) → length (records done) ≡ len₀ → out₀ ≡ laid (records done) base
          → after ≡ laid (records (done ++ take (i + 1) window)) base
      written_made done base el q =
          ea ∙ laid_more _ _ _ (r.made done base el q) (sym (written_length done el)) ∙ ap (λ (l : Bytes). laid l base) (sym (more_records done))

      pub writing_on : i < length window → n ≤ length out - len → (count + 1 ≡ most → ⊥) → Writing most window out₀ count₀ len₀ after (count + 1) (len + n) (i + 1)
      writing_on w f m =
          let s = r.same in
          let c = r.counts in
          let l = r.long in
          let k = r.fits in
          let o = r.fewer in
          record {
            within = omega arith;
            same = same_length ∙ s;
            counts = omega arith;
            long = omega (arith, ap length (more_records []), length-append (records (take i window)) (record_of x));
            fits = omega arith;
            fewer = omega arith;
            made = written_made;
            goes = λ done ec el. writing_goes done ec el f m;
          }

-- ---- the passes

-- what is left to run is a scan beyond the last key, with the records of `done` written
pub record Going (before : Direction) (s script prefix : Bytes) (most : ℕ) (base : Bytes) (t₀ : Step) (out : Bytes) (t : Step) (count len : ℕ) (last : Option Place) : Type 0 where
  pub done : List Item
  pub fuel : ℕ
  pub held : LastHeld s last
  pub enough : length (above before (last_key s last) (sorted before prefix (items s))) ≤ fuel
  pub same : length out ≡ length base
  pub counts : length done ≡ count
  pub long : length (records done) ≡ len
  pub fits : len ≤ length base
  pub fewer : count < most
  pub made : out ≡ laid (records done) base
  pub left : (h : Health)
      → Left (scan_from before flat prefix most (length base) h) s script t₀ (passes before flat (suc fuel) prefix most (length base) h (last_key s last) done) s t

pub going_start : {before : Direction} (s script prefix : Bytes) (most : ℕ) (out : Bytes) (t : Step) → good s ≡ true → 0 < most → Going before s script prefix most out t out t 0 0 None
unfolding records last_key scan_from exec
going_start {before} s script prefix most out t g m =
    record {
      done = [];
      fuel = length (items s);
      held = tt;
      enough =
          omega (arith, sorted_length before None prefix (items s));
      same = refl;
      counts = refl;
      long = refl;
      fits = omega arith;
      fewer = m;
      made = laid_none out;
      left = λ h. record { fine = g; is = ap (λ (p : Prog Bytes (Said Scanned)). exec p (world s script t)) (pick_no _ _ (ne_eqb most 0 (λ e. omega arith))) };
    }

pub scan_nothing : {before : Direction} (s script prefix : Bytes) (most : ℕ) (out : Bytes) (t : Step) → most ≡ 0
    → Scans before s script prefix most t out out (record { end = (Ok E.Stopped); count = 0; length = 0; step = t })
unfolding records scan_from exec
scan_nothing s script prefix most out t e =
    record { done = []; made = laid_none out; is = λ h. sym (ap (λ (p : Prog Bytes (Said Scanned)). exec p (world s script t)) (pick_yes _ _ (eq-eqb most 0 e))) }

module _ {before : Direction} {s script prefix : Bytes} {most : ℕ} {base : Bytes} {t₀ : Step} {out : Bytes} {t : Step} {count len : ℕ} {last : Option Place} (g : Going before s script prefix most base t₀ out t count len last) where
  good_region : good s ≡ true
  good_region = (g.left Clean).fine

  -- the run came to a listing
  ends : (e : ScanAnswer) (d : List Item) {after : Bytes} {t1 : Step} {c l : ℕ} → length d ≡ c → length (records d) ≡ l → after ≡ laid (records d) base
      → ((h : Health) → Left (scan_from before flat prefix most (length base) h) s script t₀ (listing e d h) s t1)
      → Scans before s script prefix most t₀ base after (record { end = e; count = c; length = l; step = t1 })
  ends e d {after} {t1} ec el made left =
      record {
        done = d;
        made = made;
        is = λ h.
            ap₂ (λ (x y : ℕ). ok (said (record { end = e; count = x; length = y }) h (records d)) (world s script t1)) (sym ec) (sym el)
            ∙ (left_end (left h) (runs_ret good_region)).is;
      }

  module _ {a : Passed} (p : Passes before s script prefix (last_key s last) t a) where
    -- what follows a pass that kept a window
    abbrev onward : Health → List Item → Prog Bytes (Said Scanned)
    onward h window =
        pick (ltb (length window) window_size) (listing (Ok E.Finished) (g.done ++ window) h)
        (passes before flat g.fuel prefix most (length base) h (last_of (last_key s last) window) (g.done ++ window))

    abbrev kept : Health → List Item → Prog Bytes (Said Scanned)
    kept h window =
        pick (advances before (last_key s last) window)
        (on_wrote before flat (write (length base) most g.done window) h
        (λ d. pick (ltb (length window) window_size) (listing (Ok E.Finished) d h)
        (passes before flat g.fuel prefix most (length base) h (last_of (last_key s last) window) d)))
        (listing (Err ScanStalled) g.done h)

    opened : (h : Health)
        → Left (scan_from before flat prefix most (length base) h) s script t₀
        (on_p (window_after before flat prefix (last_key s last)) (kept h) (λ e. listing (Err e) g.done h)) s t
    unfolding passes
    opened h = left_as (g.left h) refl

    pub going_failed : {f : Failure} → a ≡ Err f → Scans before s script prefix most t₀ base out (record { end = Err f.fault; count = count; length = len; step = f.step })
    going_failed {f} e =
        ends (Err f.fault) g.done g.counts g.long g.made
        (λ h. left_else (kept h) (λ e. listing (Err e) g.done h) (opened h) (record { fine = good_region; is = sym (ap (pass_run s script) e) ∙ p.is }))

    module _ {w : ScanWindow} {t1 : Step} (e : a ≡ Ok (w, t1)) where
      pub pass_sane : Sane s w
      pass_sane = subst (λ r. IfOk r (λ x. Sane s x.0)) e p.sane

      kept_window : ok (window_items s w) (world s script t1) ≡ exec (window_after before flat prefix (last_key s last)) (world s script t)
      kept_window = sym (ap (pass_run s script) e) ∙ p.is

      after_pass : (h : Health) → Left (scan_from before flat prefix most (length base) h) s script t₀ (kept h (window_items s w)) s t1
      after_pass h = left_turn (kept h) (λ e. listing (Err e) g.done h) (opened h) (record { fine = good_region; is = kept_window })

      -- the window is the first of what is to come
      window_is : Strict before → window_items s w ≡ take window_size (above before (last_key s last) (sorted before prefix (items s)))
      window_is S = (window_kept flat before prefix (last_key s last) kept_window).is_kept ∙ kept_sorted before S (last_key s last) prefix (items s)

      module _ {b : Bool} (eb : b ≡ advances before (last_key s last) (window_items s w)) where
        pub going_stalled : b ≡ false → Scans before s script prefix most t₀ base out (record { end = Err ScanStalled; count = count; length = len; step = t1 })
        going_stalled f = ends (Err ScanStalled) g.done g.counts g.long g.made (λ h. left_as (after_pass h) (pick_no _ _ (sym eb ∙ f)))

        pub going_writes : Writing most (window_items s w) out count len out count len 0
        going_writes = writing_start most (window_items s w) out count len (let f = g.fits in let e = g.same in omega arith) g.fewer

        module _ (adv : b ≡ true) {now : Bytes} {c l i : ℕ} (r : Writing most (window_items s w) out count len now c l i) where
          writes : (h : Health) {x : Wrote} → write (length out) most g.done (window_items s w) ≡ x
              → Left (scan_from before flat prefix most (length base) h) s script t₀
              (on_wrote before flat x h
              (λ d. pick (ltb (length (window_items s w)) window_size) (listing (Ok E.Finished) d h)
              (passes before flat g.fuel prefix most (length base) h (last_of (last_key s last) (window_items s w)) d))) s t1
          writes h {x} q =
              left_as (after_pass h)
              (pick_yes _ _ (sym eb ∙ adv)
              ∙ ap (λ (y : Wrote). on_wrote before flat y h
              (λ d. pick (ltb (length (window_items s w)) window_size) (listing (Ok E.Finished) d h)
              (passes before flat g.fuel prefix most (length base) h (last_of (last_key s last) (window_items s w)) d)))
              (ap (λ (n : ℕ). write n most g.done (window_items s w)) (sym g.same) ∙ q))

          module _ {x : Item} (ex : drop i (window_items s w) ≡ x ∷ drop (i + 1) (window_items s w)) {n : ℕ} (en : n ≡ length (record_of x)) where
            pub going_full : length now - l < n → Scans before s script prefix most t₀ base now (record { end = (Ok E.NoRoom); count = c; length = l; step = t1 })
            unfolding on_wrote
            going_full f =
                ends (Ok E.NoRoom) (g.done ++ take i (window_items s w)) (written_count r g.done g.counts) (written_length r g.done g.long) (r.made g.done base g.long g.made)
                (λ h. writes h (writing_full r ex en g.done g.counts g.long f))

            pub going_stops : {after : Bytes} → after ≡ written now l (record_of x) → length after ≡ length now → i < length (window_items s w) → n ≤ length now - l → c + 1 ≡ most
                → Scans before s script prefix most t₀ base after (record { end = (Ok E.Stopped); count = c + 1; length = l + n; step = t1 })
            unfolding on_wrote
            going_stops {after} ea el k f m =
                let d : List Item = g.done ++ take (i + 1) (window_items s w) in
                ends (Ok E.Stopped) d
                (omega (arith, length-append g.done (take (i + 1) (window_items s w)), length-take-le (i + 1) (window_items s w) (omega arith), r.counts, g.counts))
                (omega (arith, ap length (more_records r ex en g.done), length-append (records (g.done ++ take i (window_items s w))) (record_of x), written_length r g.done g.long))
                (written_made r ex en ea el g.done base g.long g.made)
                (λ h. writes h (writing_stops r ex en g.done g.counts g.long f m))

          module _ (over : w.len ≤ i) where
            all_taken : take i (window_items s w) ≡ window_items s w
            all_taken = take_all i (window_items s w) (let q = window_length pass_sane in omega arith)

            wrote_all : write (length out) most g.done (window_items s w) ≡ more (g.done ++ window_items s w)
            unfolding write
            wrote_all =
                r.goes g.done g.counts g.long
                ∙ ap (write (length out) most (g.done ++ take i (window_items s w))) (drop_of_length-le (window_items s w) {i = i} (let q = window_length pass_sane in omega arith))
                ∙ ap (λ (y : List Item). more (g.done ++ y)) all_taken

            on_all : (h : Health) → Left (scan_from before flat prefix most (length base) h) s script t₀ (onward h (window_items s w)) s t1
            unfolding on_wrote
            on_all h = writes h wrote_all

            all_counts : length (g.done ++ window_items s w) ≡ c
            all_counts = ap (λ (y : List Item). length (g.done ++ y)) (sym all_taken) ∙ written_count r g.done g.counts

            all_long : length (records (g.done ++ window_items s w)) ≡ l
            all_long = ap (λ (y : List Item). length (records (g.done ++ y))) (sym all_taken) ∙ written_length r g.done g.long

            all_made : now ≡ laid (records (g.done ++ window_items s w)) base
            all_made = r.made g.done base g.long g.made ∙ ap (λ (y : List Item). laid (records (g.done ++ y)) base) all_taken

            pub going_finished : w.len < window_size → Scans before s script prefix most t₀ base now (record { end = (Ok E.Finished); count = c; length = l; step = t1 })
            going_finished k =
                let q = window_length pass_sane in
                let y : length (window_items s w) < window_size = omega arith in
                ends (Ok E.Finished) (g.done ++ window_items s w) all_counts all_long all_made (λ h. left_as (on_all h) (pick_yes _ _ (lt-ltb _ _ y)))

            module _ (S : Strict before) (full : window_size ≤ w.len) {last1 : Option Place} (el : Lasts s (last_of (last_key s last) (window_items s w)) last1) where
              -- eight fewer are to come
              fewer_left : length (above before (last_key s last1) (sorted before prefix (items s))) + window_size
                  ≡ length (above before (last_key s last) (sorted before prefix (items s)))
              fewer_left =
                  let all : List Item = sorted before prefix (items s) in
                  let rest : List Item = above before (last_key s last) all in
                  let q = window_length pass_sane in
                  let lw : length (window_items s w) ≡ length (take window_size rest) = ap length (window_is S) in
                  let k : window_size ≤ length rest = omega (arith, length-take window_size rest) in
                  let new : above before (last_key s last1) all ≡ drop window_size rest =
                  ap (λ (y : Option Bytes). above before y all) (el.is ∙ ap (last_of (last_key s last)) (window_is S))
                  ∙ above_next before S (last_key s last) all (rising_sorted before S prefix (items s) (good_parts s good_region).1) k in
                  omega (arith, ap length new, length-drop window_size rest)

              pub going_less : length (above before (last_key s last1) (sorted before prefix (items s))) < length (above before (last_key s last) (sorted before prefix (items s)))
              going_less = omega (arith, fewer_left)

              pub going_on : Going before s script prefix most base t₀ now t1 c l last1
              going_on =
                  let q = window_length pass_sane in
                  let y : window_size ≤ length (window_items s w) = omega arith in
                  let z = fewer_left in
                  let n = g.enough in
                  let f : g.fuel ≡ suc (g.fuel - 1) = omega arith in
                  let rs = r.same in
                  let gs = g.same in
                  let rf = r.fits in
                  record {
                    done = g.done ++ window_items s w;
                    fuel = g.fuel - 1;
                    held = el.held;
                    enough = omega arith;
                    same = rs ∙ gs;
                    counts = all_counts;
                    long = all_long;
                    fits = omega arith;
                    fewer = r.fewer;
                    made = all_made;
                    left = λ h.
                        left_as (on_all h)
                        (pick_no _ _ (le-ltb _ _ y)
                        ∙ ap₂ (λ (m : ℕ) (k : Option Bytes). passes before flat m prefix most (length base) h k (g.done ++ window_items s w)) f (sym el.is));
                  }

-- ---- a scan that finished wrote every matching item in order, and made (m/8 + 1) · (t + 2) item calls

pub record Complete (before : Direction) (s prefix : Bytes) (t : Step) (out after : Bytes) (r : Listing) : Type 0 where
  pub count : r.count ≡ length (sift (matches prefix) (items s))
  pub calls : r.step.calls ≡ ticks ((length (sift (matches prefix) (items s)) / window_size + 1) * (length (items s) + 2)) t.calls
  pub made : after ≡ laid (records (sorted before prefix (items s))) out

pub complete : {before : Direction} {s script prefix : Bytes} {most : ℕ} {t : Step} {out after : Bytes} {r : Listing} → Strict before → good s ≡ true → Scans before s script prefix most t out after r
    → r.end ≡ (Ok E.Finished) → Complete before s prefix t out after r
complete {before} {s} {script} {prefix} {most} {t} {out} {after} {r} S g h fin =
    let f = scan_finished flat before S prefix most (length out) Clean (good_parts s g).1 (h.is Clean) fin in
    let matching : List Item = sift (matches prefix) (items s) in
    record {
      count = ap (λ (x : Scanned). x.count) f.answer ∙ gather_length before matching [] ∙ add-zero (length matching);
      calls = f.counts.calls;
      made = h.made ∙ ap (λ (x : Bytes). laid x out) f.wrote;
    }
