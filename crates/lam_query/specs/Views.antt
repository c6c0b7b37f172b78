-- What the answers of the code denote.
use Rattle.std.specs.Prelude.{ℕ, List, map, Option, String, string_bytes, option_map}
use Rattle.std.specs.declared.alloc.Global.{Global}
use Rattle.lam_rules.specs.TypeViews.{typ_of}
use Rattle.lam_rules.specs.TermViews.{written_of}
use Rattle.lam_rules.specs.declared.types.Ty.{Ty}
use Rattle.lam_query.specs.declared.answers.Fault.{Fault as RustFault}
use Rattle.lam_query.specs.declared.answers.Hover.{Hover}
use Rattle.lam_query.specs.declared.answers.Item.{Item as RustItem}
use Rattle.lam_query.specs.declared.answers.CommandType.{CommandType as RustCommandType}
use Rattle.lam_query.specs.declared.answers.CommandType.TheVariants as shows
use Rattle.lam_query.specs.declared.answers.Derivation.{Derivation as RustDerivation}
use Rattle.lam_query.specs.declared.answers.Mismatch.{Mismatch as RustMismatch}
use Rattle.lam_query.specs.declared.answers.Mismatch.TheVariants as clash
use Rattle.lam_query.specs.declared.answers.ExplainedFault.{ExplainedFault as RustExplainedFault}
use Rattle.lam_query.specs.declared.answers.Step.{Step as RustStep}
use Rattle.lam_query.specs.declared.answers.Step.TheVariants as rust
use Rattle.lam_query.specs.CommandTypes.{CommandType, of_name, of_type_name, of_term}
use Rattle.lam_query.specs.Faults.{Fault}
use Rattle.lam_query.specs.Within.{IsSpanOfText}
use Rattle.lam_query.specs.Mismatches.{Mismatch, expected, found, ExplainedFault}
use Rattle.lam_query.specs.Steps.{Step, typing, subtyping}
use Rattle.lam_query.specs.Hovers.{Shown}
use Rattle.lam_query.specs.Completions.{Item}
use Rattle.lam_query.specs.Derivations.{ContextEntry, Derivation}

-- the code and the span of a `Fault`
abbrev pub fault_of : RustFault → Fault
fault_of f = record { code = f.code.now; span = f.span }

-- the value of a `Mismatch`
abbrev pub mismatch_of : RustMismatch → Mismatch
mismatch_of (clash.Expected asked have) = expected (string_bytes asked) (string_bytes have)
mismatch_of (clash.Found t) = found (string_bytes t)

-- the diagnostic and the mismatch of an `ExplainedFault`
abbrev pub explained_of : RustExplainedFault → ExplainedFault
explained_of e = record { fault = fault_of e.fault; mismatch = option_map mismatch_of e.mismatch }

-- the text and the span of a `Hover`
abbrev pub shown_of : Hover → Shown
shown_of h = record { text = string_bytes h.text; span = h.span }

-- the value of a `CommandType`
abbrev pub command_type_of : RustCommandType → CommandType
command_type_of (shows.Name x type) = of_name (string_bytes x) (option_map (λ t. string_bytes t) type)
command_type_of (shows.TypeName x type) = of_type_name (string_bytes x) (option_map (λ t. string_bytes t) type)
command_type_of (shows.Term type) = of_term (option_map (λ t. string_bytes t) type)

-- the value of an `Item`
abbrev pub item_of : RustItem → Item
item_of i = record { label = string_bytes i.label; detail = option_map (λ d. string_bytes d) i.detail; is_field = i.field }

-- the conclusion and the premises of a `Step`
abbrev pub step_of : RustStep → Step
step_of (rust.Typing rule span ty premises) = record { conclusion = typing rule span (typ_of ty); premises = premises.items }
step_of (rust.Sub rule lower upper premises) = record { conclusion = subtyping rule (typ_of lower) (typ_of upper); premises = premises.items }

-- a context entry, as a name and its type or none
abbrev pub entry_of : String Global × Option Ty → ContextEntry
entry_of e = record { name = string_bytes e.0; type = written_of e.1 }

-- the context and the steps of a `Derivation`
abbrev pub derivation_of : RustDerivation → Derivation
derivation_of d = record { context = map entry_of d.context.items; steps = map step_of d.steps.items }

-- the span of a typing step starts and ends between characters of the text
abbrev pub StepStandsIn : List ℕ → RustStep → Type 0
StepStandsIn text (rust.Typing rule span ty premises) = IsSpanOfText text span
StepStandsIn text (rust.Sub rule lower upper premises) = Unit {0}
