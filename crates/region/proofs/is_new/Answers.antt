use Rattle.region.proofs.Classes.{tried_other, tried_first, tried_found}
use mathlib.Core.Path.{ap}
use mathlib.Core.Bool.{not}
use Rattle.region.proofs.is_new.Goals as goal

pub returns-then-class_of-class : goal.returns-then-class_of-class
returns-then-class_of-class c = tried_other c.hash-h.ensures.0 c.class_of.ensures c.if-class_of-class.true

pub returns-then-not-note : goal.returns-then-not-note
returns-then-not-note c = tried_first c.hash-h.ensures.0 c.class_of.ensures c.note.ensures (ap not c.if-not-note.true)

pub returns : goal.returns
returns c = tried_found c.hash-h.ensures.0 c.class_of.ensures c.note.ensures c.find.ensures c.is_none.ensures
