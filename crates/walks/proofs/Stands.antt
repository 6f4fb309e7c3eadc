-- From a walk to a function's theorem, for a function that requires nothing: the walk is taken to the contract, and
-- from its MIR to its routine.
use seplogic.Ra.Ura.{Ura}
use mir.Syntax.{Callee, Fn}
use base.Logic.{ent, via, fst∗}
use prog.Model.{Model}
use prog.Routine.{Env}
use prog.Wp.{Closed, WpFn}
use types.Logic.{Logic}
use contract.Lifetimes.{Lfts, Shares, AllOutlive}
use contract.Running.{Running, tables, tables_of}
use sound.WpLaws.{FmC, fm_of, WpFn-mono}
use denote.RattleType.{flat}
use denote.Laws.{Are, Ises, Spells, valss, Tellss}
use denote.Signature.{types_at}
use denote.Triple.Clauses.{Ended, Clauses, closing}
use denote.Triple.Entry.{Args, on_entry}
use denote.Triple.Spec.{triple_of}
use denote.Triple.Statement.{Triple}
use denote.Triple.Table.{entered}
use denote.Triple.Walked.{Stays, AllGo, walk_of, walked, walk_Meets}

module _ {M : Type 1} {𝓤 : Ura M} (𝓛 : Logic 𝓤) (𝓜 : Model 𝓤 𝓛.H) (𝓡 : Running 𝓤 𝓛.H 𝓜) (T : Ended)
    (hs : Stays T.signature.params T.kept)
    (c : Clauses 𝓤 T) (env : Env) (own : Callee) (f : Fn) where
  open 𝓛 use {H}

  pub stands : Closed 𝓤 H (tables 𝓤 H 𝓜 𝓡 env).C (tables 𝓤 H 𝓜 𝓡 env).Λ own f
      → AllGo 𝓛 T.signature.lifetimes T.signature.params T.kept hs
      → (sp : (κs : Lfts T.signature.lifetimes) → Spells (types_at T.signature.params κs))
      → ((κs : Lfts T.signature.lifetimes) → Tellss (types_at T.signature.params κs) (Ises (types_at T.signature.params κs)) (sp κs))
      → (FmC 𝓤 H 𝓛.laws (tables 𝓤 H 𝓜 𝓡 env).C
      → (κs : Lfts T.signature.lifetimes) (qs : Shares T.signature.lifetimes)
      (bounds : AllOutlive T.signature.lifetimes T.signature.outlives κs) (a : Args T.signature κs) (g : (c κs a).ghost)
      → Are (types_at T.signature.params κs) (Ises (types_at T.signature.params κs)) a (valss (types_at T.signature.params κs) (sp κs) a)
      → ent 𝓤 (on_entry 𝓛 T.signature κs qs a (valss (types_at T.signature.params κs) (sp κs) a))
      (WpFn 𝓤 H (tables 𝓤 H 𝓜 𝓡 env).C (tables 𝓤 H 𝓜 𝓡 env).Λ f
      (flat (types_at T.signature.params κs) (valss (types_at T.signature.params κs) (sp κs) a))
      ((walk_of 𝓛 T hs c).post ((κs, qs, bounds, a, valss (types_at T.signature.params κs) (sp κs) a), g))))
      → Triple 𝓤 ((tables 𝓤 H 𝓜 𝓡 env).C own) (triple_of 𝓛 T.signature (closing 𝓛 T c))
  unfolding tables_of
  stands closed gone sp tl walk =
      entered 𝓤 H (triple_of 𝓛 T.signature (closing 𝓛 T c)) (tables 𝓤 H 𝓜 𝓡 env).C (tables 𝓤 H 𝓜 𝓡 env).Λ own f closed
      (walk_Meets 𝓛 T hs gone c (WpFn 𝓤 H (tables 𝓤 H 𝓜 𝓡 env).C (tables 𝓤 H 𝓜 𝓡 env).Λ f)
      (WpFn-mono 𝓤 H 𝓛.laws (tables_of 𝓤 H 𝓜 (tables 𝓤 H 𝓜 𝓡 env)) f)
      (walked 𝓛 T hs c (WpFn 𝓤 H (tables 𝓤 H 𝓜 𝓡 env).C (tables 𝓤 H 𝓜 𝓡 env).Λ f) sp tl
      (λ κs qs bounds a g are. via 𝓤 _ (fst∗ 𝓤 _ ((c κs a).requires g))
      (walk (fm_of 𝓤 H 𝓛.laws (tables_of 𝓤 H 𝓜 (tables 𝓤 H 𝓜 𝓡 env))) κs qs bounds a g are))))
