-- What an answer leaves in memory, on any region, script and state, from a start or not: a bad image, a get's output,
-- a scan's output.
use mathlib.Core.Path.{◌≡◌, refl, sym, ap, ◌∙◌}
use mathlib.Core.Bool.{Bool, true, false}
use mathlib.Core.List.{List, []}
use Rattle.std.specs.Prelude.{Option, None, Some, Ok, Err}
use Prim.Native.Nat.{ℕ, zero, suc}
use native.Mathlib.Omega.{arith}
use lib.ListN.{length, drop}
use lib.Seq.{drop-append_seam}
use lib.Dec.{eqb, ltb}
use Rattle.definition.specs.Tools.{Bytes, pick, opt}
use Rattle.definition.specs.Region.{Item, good, records}
use Rattle.definition.specs.Codec.{laid}
use Rattle.definition.specs.Program.{Prog, ret, err, see, call, on_p, World, world, Result, ok, bad, on, done, ran, exec, fetch, flat}
use Rattle.definition.specs.Recovery.{recover}
use Rattle.definition.specs.Calls.{Said, unstorable, is_pending, gate, hand, region_fault}
use Rattle.definition.specs.Calls as Calls
use Rattle.definition.specs.Scan.{rising, Wrote, more, ended, write, window_size, last_of, advances, window_after, on_wrote, passes, scan_from, scan}
use Rattle.definition.specs.Public.{Outcome, outcome, begin, outcome_of, public, unmounted}
use Rattle.definition.specs.Public as Public
use Rattle.definition.specs.declared.Space.{Space}
use Rattle.definition.specs.declared.State.{State}
use Rattle.definition.specs.declared.Step.{Step}
use Rattle.definition.specs.declared.Fault.{Fault}
use Rattle.definition.specs.declared.Fault.TheVariants.{Corrupted}
use Rattle.definition.specs.declared.Health.{Health}
use Rattle.definition.specs.declared.Health.TheVariants.{Clean}
use Rattle.definition.specs.declared.Verdict.{Verdict}
use Rattle.definition.specs.declared.Verdict.TheVariants.{Pass, Fail}
use Rattle.definition.specs.Answers.{GetAnswer, ScanAnswer}
use Rattle.definition.specs.declared.Scanned.{Scanned}
use Rattle.definition.specs.declared.BatchOp.{BatchOp}
use Rattle.definition.proofs.Choices.{bool, opt_none}

-- ---- "a bad one answers 7 with nothing changed and no item call"

bad_public : {A : Type 0} (refuse : Fault → A) (p : Prog Bytes (Said A)) (region script : Bytes) (st : State)
    (out : Bytes) → good region ≡ false
    → public refuse p region script st out ≡ outcome (refuse Corrupted) st 0 region out
unfolding public pick
bad_public refuse p region script st out b = rw b refl

pub record SevenAlone (region script : Bytes) : Type 0 where
  pub get : (st : State) (key out : Bytes)
      → Public.get region script st key out ≡ outcome (Err Corrupted) st 0 region out
  pub contains : (st : State) (key : Bytes)
      → Public.contains region script st key ≡ outcome (Err Corrupted) st 0 region []
  pub put : (st : State) (key value : Bytes)
      → Public.put region script st key value ≡ outcome (Err Corrupted) st 0 region []
  pub delete : (st : State) (key : Bytes)
      → Public.delete region script st key ≡ outcome (Err Corrupted) st 0 region []
  pub apply_batch : (st : State) (list : Bytes)
      → Public.apply_batch region script st list ≡ outcome (Err Corrupted) st 0 region []
  pub apply_ops : (st : State) (ops : List BatchOp) (pool : Bytes)
      → Public.apply_ops region script st ops pool ≡ outcome (Err Corrupted) st 0 region []
  pub scan_prefix : (st : State) (prefix : Bytes) (most : ℕ) (out : Bytes)
      → Public.scan_prefix region script st prefix most out ≡ outcome
      (record { end = Err Corrupted; count = 0; length = 0 }) st 0 region out
  pub mount : (start at : ℕ) → region_fault start (length region) ≡ None
      → Public.mount region script start at ≡ outcome (Err Corrupted) (unmounted region at) 0 region []

pub bad_image : (region script : Bytes) → good region ≡ false → SevenAlone region script
unfolding Public.get Public.contains Public.put Public.delete Public.apply_batch Public.apply_ops Public.scan_prefix Public.mount
bad_image region script b =
    record {
      get = λ st key out. bad_public _ _ region script st out b;
      contains = λ st key. bad_public _ _ region script st _ b;
      put = λ st key value. bad_public _ _ region script st _ b;
      delete = λ st key. bad_public _ _ region script st _ b;
      apply_batch = λ st list. bad_public _ _ region script st _ b;
      apply_ops = λ st ops pool. bad_public _ _ region script st _ b;
      scan_prefix = λ st prefix most out. bad_public _ _ region script st out b;
      mount = λ start at e. opt_none _ _ e ∙ bad_public _ _ region script (unmounted region at) _ b;
    }

-- ---- what every return of a program is, whatever faults come

data Returns {S A : Type 0} (P : A → Type 0) : Prog S A → Type 0 where
  by_ret : {a : A} → P a → Returns P (ret a)
  by_err : {e : Fault} → Returns P (err e)
  by_see : {c : S → Prog S A} → ((s : S) → Returns P (c s)) → Returns P (see c)
  by_call : {f : S → Bool} {g : S → S} {n : S → Space → Space} {c : S → Prog S A} {d : Fault → Prog S A}
      → ((s : S) → Returns P (c s)) → ((e : Fault) → Returns P (d e)) → Returns P (call f g n c d)

returns_on : {S A B : Type 0} {P : B → Type 0} (p : Prog S A) {k : A → Prog S B} {h : Fault → Prog S B}
    → ((a : A) → Returns P (k a)) → ((e : Fault) → Returns P (h e)) → Returns P (on_p p k h)
unfolding on_p
returns_on (ret a) f g = f a
returns_on (err e) f g = g e
returns_on (see c) f g = by_see (λ s. returns_on (c s) f g)
returns_on (call r e n c d) f g = by_call (λ s. returns_on (c s) f g) (λ x. returns_on (d x) f g)

returns_if : {S A : Type 0} {P : A → Type 0} (b : Bool) {x y : Prog S A} → Returns P x → Returns P y
    → Returns P (pick b x y)
unfolding pick
returns_if true p q = p
returns_if false p q = q

returns_option : {S A B : Type 0} {P : A → Type 0} (o : Option B) {x : Prog S A} {f : B → Prog S A}
    → Returns P x → ((b : B) → Returns P (f b)) → Returns P (opt o x f)
unfolding opt
returns_option None p q = p
returns_option (Some b) p q = q b

returns_gate : {A : Type 0} {P : Said A → Type 0} (refuse : Fault → A) (b : Bool) (h : Health)
    {k : Health → Prog Bytes (Said A)}
    → ((e : Fault) → P (record { answer = refuse e; health = h; wrote = [] })) → ((h1 : Health) → Returns P (k h1))
    → Returns P (gate flat refuse b h k)
unfolding gate
returns_gate refuse true h p q = returns_on (recover flat) (λ x. q Clean) (λ e. by_ret (p e))
returns_gate refuse false h p q = q h

data Ended {S A : Type 0} (P : A → Type 0) : Result (World S) A → Type 0 where
  well : {a : A} {w : World S} → P a → Ended P (ok a w)
  ill : {e : Fault} {w : World S} → Ended P (bad e w)

one_call : {S A : Type 0} {P : A → Type 0} (v : Verdict) (room : Bool) (s' : S) (k : Space → Space) (s : S)
    (script : Bytes) (t : Step)
    (c : S → Prog S A) (d : Fault → Prog S A) → ((x : S) (w : World S) → Ended P (exec (c x) w))
    → ((e : Fault) (w : World S) → Ended P (exec (d e) w))
    → Ended P (on (done v room s' k s script t) (λ x w. exec (c w.region) w) (λ e w. exec (d e) w))
unfolding on done
one_call Pass true s' k s script t c d p q = p _ _
one_call Pass false s' k s script t c d p q = q _ _
one_call (Fail f true) true s' k s script t c d p q = q _ _
one_call (Fail f true) false s' k s script t c d p q = q _ _
one_call (Fail f false) room s' k s script t c d p q = q _ _

exec_returns : {S A : Type 0} {P : A → Type 0} {p : Prog S A} → Returns P p → (w : World S) → Ended P (exec p w)
unfolding exec ran
exec_returns (by_ret x) w = well x
exec_returns by_err w = ill
exec_returns (by_see c) w = exec_returns (c w.region) w
exec_returns (by_call {c = c} {d = d} p q) w =
    one_call _ _ _ _ _ _ _ c d (λ x. exec_returns (p x)) (λ e. exec_returns (q e))

-- what holds of every return, and of a refusal that wrote nothing, holds of the public call
public_leaves : {A : Type 0} (refuse : Fault → A) (P : A → Bytes → Type 0) {p : Prog Bytes (Said A)}
    (region script : Bytes) (st : State) (out : Bytes)
    → ((f : Fault) → P (refuse f) []) → Returns (λ r. P r.answer r.wrote) p
    → (wrote : Bytes) × P (public refuse p region script st out).answer wrote
    × ((public refuse p region script st out).output ≡ laid wrote out)
unfolding public outcome_of pick laid
public_leaves {A} refuse P {p} region script st out n e =
    bool (good region) (λ g. rw g (go _ (exec_returns e (world region script (begin st)))))
    (λ g. rw g ([], n Corrupted, refl))
  where
    go : (r : Result (World Bytes) (Said A)) → Ended (λ r. P r.answer r.wrote) r
        → (wrote : Bytes) × P (outcome_of refuse st.health out r).answer wrote
        × ((outcome_of refuse st.health out r).output ≡ laid wrote out)
    go r (well {a = a} x) = (a.wrote, x, refl)
    go r (ill {e = f}) = ([], n f, refl)

-- ---- "Output bytes not written keep their old values; on 18 the output is untouched": a refused get leaves its
-- output, and so does an absent one

data Hands : GetAnswer → Bytes → Type 0 where
  found : {n : ℕ} {v : Bytes} → Hands (Ok (Some n)) v
  absent : Hands (Ok None) []
  refused : {f : Fault} → Hands (Err f) []

get_returns : (key : Bytes) (room : ℕ) (h : Health)
    → Returns (λ r. Hands r.answer r.wrote) (Calls.get flat key room h)
unfolding Calls.get Calls.get_key hand
get_returns key room h =
    returns_gate Err (is_pending h) h (λ e. refused)
    (λ h1. returns_if (unstorable key) (by_ret absent)
    (returns_on (fetch flat key)
    (λ o. returns_option o (by_ret absent) (λ v. returns_if (ltb room (length v)) (by_ret refused) (by_ret found)))
    (λ e. by_ret refused)))

pub get_leaves : (region script : Bytes) (st : State) (key out : Bytes) (f : Fault)
    → (Public.get region script st key out).answer ≡ Err f
    → (Public.get region script st key out).output ≡ out
unfolding Public.get laid
get_leaves region script st key out f e =
    let (wrote, hands, is) = public_leaves Err Hands region script st out (λ g. refused)
    (get_returns key (length out) st.health) in
    is ∙ ap (λ (w : Bytes). laid w out) (nothing e hands)
  where
    nothing : {a : GetAnswer} {w : Bytes} → a ≡ Err f → Hands a w → w ≡ []
    nothing p found = let z : ◌≡◌ {A = ℕ} 0 1 = cc in absurd (omega arith)
    nothing p absent = refl
    nothing p refused = refl

-- ---- a scan, however it ends: the records that it counts stand at the front of the output, and every byte beyond
-- them is as it was

data Lists : Scanned → Bytes → Type 0 where
  lists : {e : ScanAnswer} (is : List Item)
      → Lists (record { end = e; count = length is; length = length (records is) }) (records is)

abbrev Listing : Said Scanned → Type 0
Listing r = Lists r.answer r.wrote

module _ (prefix : Bytes) (most room : ℕ) where
  wrote_returns : (h : Health) (w : Wrote) {go : List Item → Prog Bytes (Said Scanned)}
      → ((d : List Item) → Returns Listing (go d)) → Returns Listing (on_wrote rising flat w h go)
  unfolding on_wrote
  wrote_returns h (more done) p = p done
  wrote_returns h (ended e done) p = by_ret (lists done)

  passes_return : (h : Health) (fuel : ℕ) (last : Option Bytes) (done : List Item)
      → Returns Listing (passes rising flat fuel prefix most room h last done)
  unfolding passes
  passes_return h zero last done = by_ret (lists done)
  passes_return h (suc fuel) last done =
      returns_on (window_after rising flat prefix last)
      (λ window. returns_if (advances rising last window)
      (wrote_returns h (write room most done window)
      (λ d. returns_if (ltb (length window) window_size) (by_ret (lists d))
      (passes_return h fuel (last_of last window) d)))
      (by_ret (lists done)))
      (λ e. by_ret (lists done))

  scan_returns : (h : Health) → Returns Listing (scan rising flat prefix most room h)
  unfolding scan scan_from records
  scan_returns h =
      returns_gate (λ (e : Fault). record { end = Err e; count = 0; length = 0 }) (is_pending h) h (λ e. lists [])
      (λ h1. returns_if (eqb most 0) (by_ret (lists []))
      (by_see (λ s. passes_return h1 (suc (length (flat.listed s))) None [])))

pub record Written (out : Bytes) (r : Outcome Scanned) : Type 0 where
  pub listed : List Item
  pub count : r.answer.count ≡ length listed
  pub long : r.answer.length ≡ length (records listed)
  pub output : r.output ≡ laid (records listed) out
  pub beyond : drop r.answer.length r.output ≡ drop r.answer.length out

pub scan_leaves : (region script : Bytes) (st : State) (prefix : Bytes) (most : ℕ) (out : Bytes)
    → Written out (Public.scan_prefix region script st prefix most out)
unfolding Public.scan_prefix laid
scan_leaves region script st prefix most out =
    let (wrote, hands, is) =
    public_leaves (λ (e : Fault). record { end = Err e; count = 0; length = 0 }) Lists region script st out
    (λ f. unfold records in lists [])
    (scan_returns prefix most (length out) st.health) in
    shown _ refl hands is
  where
    shown : (r : Outcome Scanned) {a : Scanned} {w : Bytes} → r.answer ≡ a → Lists a w → r.output ≡ laid w out
        → Written out r
    shown r p (lists is) e =
        let long : r.answer.length ≡ length (records is) = ap (λ (a : Scanned). a.length) p in
        record {
          listed = is;
          count = ap (λ (a : Scanned). a.count) p;
          long = long;
          output = e;
          beyond =
              ap (λ (n : ℕ). drop n r.output) long ∙ ap (drop (length (records is))) e
              ∙ drop-append_seam (records is) (drop (length (records is)) out) ∙ ap (λ (n : ℕ). drop n out) (sym long);
        }
