-- The forms of the scan's contracts: what a pass ran, and what a scan leaves.
use Rattle.std.specs.Prelude.{◌≡◌, List, ℕ, length, Option, IfOk, Ok, Err}
use Rattle.std.specs.Prelude as P
use Rattle.definition.specs.Tools.{Bytes}
use Rattle.definition.specs.Codec.{laid}
use Rattle.definition.specs.Region.{Item, records}
use Rattle.definition.specs.Program.{World, world, Result, ok, bad, exec, flat}
use Rattle.definition.specs.Calls.{said}
use Rattle.definition.specs.Scan.{window_after, scan_from}
use Rattle.definition.specs.declared.Step.{Step}
use Rattle.definition.specs.declared.Health.{Health}
use Rattle.definition.specs.declared.Scanned.{Scanned}
use Rattle.items.specs.declared.Failure.{Failure}
use Rattle.windows.specs.declared.ScanWindow.{ScanWindow}
use Rattle.windows.specs.Forms.{Direction, window_items, Sane}
use Rattle.scan.specs.declared.Listing.{Listing}

-- ---- passes

-- what a pass comes to: the window that it kept, and where it then stands
abbrev pub Passed : Type 0
Passed = P.Result (ScanWindow × Step) Failure

abbrev pub pass_run : Bytes → Bytes → Passed → Result (World Bytes) (List Item)
pass_run s script (Ok r) = ok (window_items s r.0) (world s script r.1)
pass_run s script (Err e) = bad e.fault (world s script e.step)

-- a pass beyond the last key, from step t, comes to r
pub record Passes (before : Direction) (s script prefix : Bytes) (last : Option Bytes) (t : Step) (r : Passed) : Type 0 where
  pub sane : IfOk r (λ x. Sane s x.0)
  pub is : pass_run s script r ≡ exec (window_after before flat prefix last) (world s script t)

-- ---- the scan

abbrev pub scanned_of : Listing → Scanned
scanned_of r = record { end = r.end; count = r.count; length = r.length }

-- a scan of the region s from step t: the items written, the answer at every health, and what it leaves of the output
pub record Scans (before : Direction) (s script prefix : Bytes) (most : ℕ) (t : Step) (out after : Bytes)
    (r : Listing) : Type 0 where
  pub done : List Item
  pub is : (h : Health)
      → ok (said (scanned_of r) h (records done)) (world s script r.step) ≡ exec
      (scan_from before flat prefix most (length out) h) (world s script t)
  pub made : after ≡ laid (records done) out
