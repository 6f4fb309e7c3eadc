-- What is proved beside the promise. `Outputs`: what stands in the outputs of scans and refused gets, with the same
-- maps (proofs/Promised). `LentWhole`: the region keeps its length (proofs/Promised).
use Rattle.std.specs.Prelude.{◌≡◌, false, true, List, [], ◌∷◌, ◌++◌, ℕ, ◌+◌, length, ltb, None, Ok, Err}
use Rattle.definition.specs.Tools.{Bytes, pick}
use Rattle.definition.specs.Region.{Item, fetched, record_of, records}
use Rattle.definition.specs.Codec.{laid}
use Rattle.definition.specs.Numbers.{refusal}
use Rattle.definition.specs.Scan.{rising, begins, last_of, beyond}
use Rattle.definition.specs.declared.Fault.{Fault}
use Rattle.definition.specs.Answers.{GetAnswer, ScanAnswer}
use Rattle.definition.specs.declared.ScanEnd.TheVariants as End
use Rattle.definition.specs.declared.Scanned.{Scanned}
use Rattle.promise.specs.Run.{Call, get, scan_prefix, Heard, nothing, answered, told, got, listed, scanned, Moment, turn, later}
use Rattle.promise.specs.Promise.{Plain, rises, Kept, end, then, Start, plain_of}

-- ---- outputs

-- a refused get leaves its output as it was
pub data Handed : Call → GetAnswer → Bytes → Type 0 where
  handed : {c : Call} {a : GetAnswer} {shown : Bytes} → refusal a ≡ None → Handed c a shown
  untouched : {key output : Bytes} {f : Fault} → Handed (get key output) (Err f) output

-- the first of what the map has under a prefix: it misses nothing up to its own last key (proofs/Listed: so it is the
-- front of the map's one list)
pub record FirstOf (prefix : Bytes) (A : Plain) (is : List Item) : Type 0 where
  pub in_order : rises is ≡ true
  pub complete : (k : Bytes) → beyond rising (last_of None is) k ≡ false
      → fetched k is ≡ pick (begins prefix k) (A k) None

-- why a scan wrote no more than these: it stopped at the number it was asked for, or the next record did not fit
unfoldable pub Ended : Plain → Bytes → ℕ → ℕ → List Item → ScanAnswer → Type 0
Ended A prefix most room is (Ok End.Finished) = Unit {0}
Ended A prefix most room is (Ok End.Stopped) = length is ≡ most
Ended A prefix most room is (Ok End.NoRoom) =
    (i : Item) × FirstOf prefix A (is ++ (i ∷ [])) × (ltb room (length (records is) + length (record_of i)) ≡ true)
Ended A prefix most room is (Err f) = Unit {0}

-- every scan wrote the first of the map's records, however it ended
pub data Wrote (A : Plain) : Call → Scanned → Bytes → Type 0 where
  wrote : {prefix output : Bytes} {most : ℕ} {is : List Item} {e : ScanAnswer} → FirstOf prefix A is
      → Ended A prefix most (length output) is e
      → Wrote A (scan_prefix prefix most output) (scanned e is) (laid (records is) output)

-- what a call shows, while the map is A
unfoldable pub Shows : Plain → Call → Heard → Type 0
Shows A c nothing = Unit {0}
Shows A c (answered a) = Unit {0}
Shows A c (told a) = Unit {0}
Shows A c (got a shown) = Handed c a shown
Shows A c (listed a shown) = Wrote A c a shown

-- and so of every call in a run, with the maps that keep the promise
unfoldable pub Shown : {A : Plain} {cs : List Call} {m : Moment} → Kept A cs m → Type 0
Shown end = Unit {0}
Shown (then {A} {c} {cs} {m} B step rest) = Shows A c (turn c m).heard × Shown rest

abbrev pub Outputs : Type 0
Outputs = (m : Moment) → Start m → (run : List Call) → (kept : Kept (plain_of m) run m) × Shown kept

-- ---- the region keeps its length

abbrev pub LentWhole : Type 0
LentWhole = (m : Moment) → Start m → (run : List Call) → length (later run m).region ≡ length m.region
