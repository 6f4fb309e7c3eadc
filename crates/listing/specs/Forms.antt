-- What a listing, and a refusal before it, make of a scan's reply.
use Rattle.std.specs.Prelude.{Err}
use Rattle.definition.specs.declared.Fault.{Fault}
use Rattle.definition.specs.declared.Health.{Health}
use Rattle.definition.specs.declared.Scanned.{Scanned}
use Rattle.definition.specs.declared.Reply.{Reply}
use Rattle.scan.specs.declared.Listing.{Listing}
use Rattle.scan.specs.Forms.{scanned_of}
use Rattle.gate.specs.Forms.{reply_of}

abbrev pub listed : Listing → Health → Reply Scanned
listed l h = reply_of (scanned_of l) h l.step

abbrev pub unlisted : Fault → Scanned
unlisted f = record { end = Err f; count = 0; length = 0 }
