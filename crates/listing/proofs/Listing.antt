-- The outcomes of the public scan, return by return.
use mathlib.Core.Path.{◌≡◌, ap, ◌∙◌}
use mathlib.Core.Bool.{Bool, true, false}
use Prim.Native.Nat.{ℕ}
use lib.ListN.{length}
use Rattle.definition.specs.Tools.{Bytes}
use Rattle.definition.specs.Codec.{laid}
use Rattle.definition.specs.Region.{good}
use Rattle.definition.specs.Program.{flat}
use Rattle.definition.specs.Calls.{is_pending}
use Rattle.definition.specs.Scan.{rising, scan_from, scan}
use Rattle.definition.specs.Public.{outcome, begin, scan_prefix}
use Rattle.definition.specs.declared.Step.{Step}
use Rattle.definition.specs.declared.State.{State}
use Rattle.definition.specs.declared.Fault.TheVariants.{Corrupted}
use Rattle.definition.specs.declared.Health.{Health}
use Rattle.definition.specs.declared.Scanned.{Scanned}
use Rattle.items.specs.declared.Failure.{Failure}
use Rattle.scan.specs.declared.Listing.{Listing}
use Rattle.scan.specs.Forms.{scanned_of, Scans}
use Rattle.std.specs.Prelude.{Ok, Err}
use Rattle.definition.specs.declared.Reply.{Reply}
use Rattle.gate.specs.Forms.{Told, Gate, state_of, unchanged_of, reply_of}
use Rattle.gate.proofs.Saying.{public_bad, public_ready, public_unready}
use Rattle.listing.specs.Forms.{listed, unlisted}

module _ (region script prefix : Bytes) (most : ℕ) (st : State) (out : Bytes) {g : Bool} (eg : g ≡ good region) where
  pub scan_bad : g ≡ false → {u : Reply Scanned} → u ≡ unchanged_of (unlisted Corrupted) st → outcome u.answer u.state u.calls region out ≡ scan_prefix region script st prefix most out
  unfolding scan_prefix
  scan_bad e eu = ap (λ (u : Reply Scanned). outcome u.answer u.state u.calls region out) eu ∙ public_bad unlisted _ region script st out eg e

  module _ (e : g ≡ true) {b : Bytes} {c : Told Health} (x : Gate (is_pending st.health) st.health region script (begin st) b c) where
    pub scan_unready : {w : Failure} {u : Reply Scanned} → c ≡ Err w → u ≡ reply_of (unlisted w.fault) st.health w.step
        → outcome u.answer u.state u.calls b out ≡ scan_prefix region script st prefix most out
    unfolding scan_prefix scan laid
    scan_unready q eu =
        ap (λ (u : Reply Scanned). outcome u.answer u.state u.calls b out) eu
        ∙ public_unready unlisted (scan_from rising flat prefix most (length out)) st out eg e x q

    pub scan_listed : {h : Health} {t1 : Step} {l : Listing} {after : Bytes} {u : Reply Scanned} → c ≡ Ok (h, t1) → Scans rising b script prefix most t1 out after l → u ≡ listed l h
        → outcome u.answer u.state u.calls b after ≡ scan_prefix region script st prefix most out
    unfolding scan_prefix scan
    scan_listed {h} {t1} {l} {after} {u} q y eu =
        ap (λ (u : Reply Scanned). outcome u.answer u.state u.calls b after) eu
        ∙ ap (outcome (scanned_of l) (state_of h l.step) l.step.calls b) y.made
        ∙ public_ready unlisted (scan_from rising flat prefix most (length out)) st out eg e x q (record { fine = x.fine; is = y.is h })
