-- No value of a diagnostic or a derivation holds a float.
use Rattle.std.proofs.Common.{◌≡◌, ℕ, List, [], ◌∷◌, map, false, Option, None, Some, refl}
use Rattle.serde_json.specs.Data.{number, unsigned}
use Rattle.serde_json.specs.View.{items_of}
use Rattle.serde_json.specs.Written.{has_float, items_have_float}
use Rattle.lam_rules.specs.Types.{Typ}
use Rattle.lam_text.specs.declared.units.Encoding.{Encoding}
use Rattle.lam_query.specs.Derivations.{ContextEntry, Derivation}
use Rattle.lam_query.specs.Faults.{Fault}
use Rattle.lam_query.specs.Steps.{Conclusion, typing, subtyping, Step}
use Rattle.lam_session.specs.Derivations.{type_value, entry_value, conclusion_value, step_value, derivation_value}
use Rattle.lam_session.specs.Diagnostics.{diagnostics}

pub diagnostics_floatless : (encoding : Encoding) (text : List ℕ) (faults : List Fault) → items_have_float (diagnostics encoding text faults) ≡ false
diagnostics_floatless encoding text [] = refl
diagnostics_floatless encoding text (f ∷ fs) = diagnostics_floatless encoding text fs

type_floatless : (o : Option Typ) → has_float (type_value o) ≡ false
type_floatless None = refl
type_floatless (Some t) = refl

entries_floatless : (es : List ContextEntry) → items_have_float (items_of (map entry_value es)) ≡ false
entries_floatless [] = refl
entries_floatless (e ∷ es) = rw (type_floatless e.type, entries_floatless es) refl

premises_floatless : (numbers : List ℕ) → items_have_float (items_of (map (λ n. number (unsigned n)) numbers)) ≡ false
premises_floatless [] = refl
premises_floatless (n ∷ ns) = premises_floatless ns

conclusion_floatless : (encoding : Encoding) (text premises : List ℕ) (c : Conclusion) → has_float (conclusion_value encoding text premises c) ≡ false
conclusion_floatless encoding text premises (typing rule span type) = rw (premises_floatless premises) refl
conclusion_floatless encoding text premises (subtyping rule lower upper) = rw (premises_floatless premises) refl

steps_floatless : (encoding : Encoding) (text : List ℕ) (steps : List Step) → items_have_float (items_of (map (step_value encoding text) steps)) ≡ false
steps_floatless encoding text [] = refl
steps_floatless encoding text (s ∷ ss) = rw (conclusion_floatless encoding text s.premises s.conclusion, steps_floatless encoding text ss) refl

pub derivation_floatless : (encoding : Encoding) (text : List ℕ) (derived : Option Derivation) → has_float (derivation_value encoding text derived) ≡ false
derivation_floatless encoding text None = refl
derivation_floatless encoding text (Some d) = rw (entries_floatless d.context, steps_floatless encoding text d.steps) refl
