-- What is reported on a derivation that was sent.
use Rattle.std.specs.Prelude.{◌≡◌, ◌⊎◌, ℕ, List, [], ◌∷◌, ◌++◌, Option, Some, None, codes, decimal, flat_map}
use Rattle.serde_json.specs.Data.{Data, object, member, no_members}
use Rattle.serde_json.specs.Find.{as_str}
use Rattle.lam_rules.specs.Texts.{Text, plain_text}
use Rattle.lam_rules.specs.Types.{Typ}
use Rattle.lam_rules.specs.declared.rules.Dialect.{Dialect}
use Rattle.lam_text.specs.declared.units.Encoding.{Encoding}
use Rattle.lam_query.specs.Derivations.{ContextEntry, Derivation}
use Rattle.lam_query.specs.Steps.{Conclusion, last_conclusion}
use Rattle.lam_session.specs.Derivations.{derivation_value}
use Rattle.lam_check.specs.Drawings.{claim_text, line}
use Rattle.lam_query.specs.FirstFaults.{IsFirstFault}
use Rattle.lam_query.specs.Verified.{IsVerified}
use Rattle.lam_check.specs.Lines.{shown_line}
use Rattle.lam_check.specs.Readable.{IsReadable}
use Rattle.lam_check.specs.Unreadable.{IsWrongFor}
use Rattle.lam_check.specs.Verified.{IsVerifiedValue}
use Rattle.lam_query.specs.declared.answers.FirstFault.{FirstFault}
use Rattle.lam_query.specs.declared.answers.FirstFault.TheVariants as faults
use Rattle.lam_check.specs.declared.read_derivations.Unread.{Unread}
use Rattle.lam_check.specs.declared.read_derivations.Unread.TheVariants as unread
use Rattle.lam_check.specs.declared.terms.Role.TheVariants as roles

-- ---- values that were sent

-- a derivation with the name of the file that it is about: an object with exactly these members
abbrev pub with_file : (derivation file : Data) → Data
with_file derivation file = object (member (codes "derivation") derivation (member (codes "file") file no_members))

-- The derivation in a value and the name of its file: those of the two members if there are exactly these, otherwise the whole value and no name.
abbrev pub IsSent : (value derivation : Data) → (file : Option Text) → Type 0
IsSent value derivation file =
    ((named : Data) × (value ≡ with_file derivation named) × (file ≡ as_str named))
    ⊎ (((d named : Data) → value ≡ with_file d named → ⊥) × (derivation ≡ value) × (file ≡ None))

-- ---- accepted derivations

-- the type of an entry behind its name, if it has one
abbrev pub type_behind : Option Typ → Text
type_behind None = []
type_behind (Some t) = codes ":" ++ plain_text t

-- an entry of a context, as in `x:Nat`; the name alone if it has no type
abbrev pub entry_text : ContextEntry → Text
entry_text e = e.name ++ type_behind e.type

-- a further entry
abbrev pub next_entry : ContextEntry → Text
next_entry e = codes ", " ++ entry_text e

-- a context before its conclusion, as in `x:Nat, y |- `; nothing if it is empty
abbrev pub context_text : List ContextEntry → Text
context_text [] = []
context_text (e ∷ es) = entry_text e ++ flat_map next_entry es ++ codes " |- "

-- the last conclusion, with its term as it is written
abbrev pub claim_in : List ℕ → Option Conclusion → Text
claim_in text None = []
claim_in text (Some c) = claim_text text roles.Other c

-- `NAME: accepted: CONTEXT |- CLAIM`, or `NAME: accepted: CLAIM` if the context is empty. Labels and names of files can have any characters, so those that could control the terminal are replaced.
abbrev pub accepted_line : (name : Text) → (text : List ℕ) → Derivation → Text
accepted_line name text x = line (shown_line name ++ codes ": accepted: " ++ shown_line (context_text x.context ++ claim_in text (last_conclusion x.steps)))

-- ---- refused ones

-- the message of a fault
unfoldable pub message : FirstFault → Text
message faults.NoStep = codes "it has no steps"
message (faults.Premises n) = codes "the premises of step " ++ decimal n ++ codes " are not the last steps of the proofs directly before it"
message (faults.Loose n) = codes "the steps do not form one proof of typing that ends in step " ++ decimal n
message faults.TooLarge = codes "the text has a type of more than 4,096 nodes"
message (faults.NoTerm n) = codes "step " ++ decimal n ++ codes " is not about a term of the text"
message faults.Names = codes "the names of the context are not those that the term sees"
message (faults.Entry n) = codes "entry " ++ decimal n ++ codes " of the context does not fit its name in the text"
message (faults.Step n) = codes "step " ++ decimal n ++ codes " does not follow by its rule from its premises"
message (faults.Range n) = codes "step " ++ decimal n ++ codes " does not have the range of its term"

-- why a value is not read as a derivation
unfoldable pub unread_text : Unread → Text
unread_text unread.Derivation = codes "it is not an object with exactly the members `context` and `steps`, both lists"
unread_text (unread.Entry n) = codes "entry " ++ decimal n ++ codes " is not an object with exactly the members `name`, a string, and `type`"
unread_text (unread.EntryType n) = codes "entry " ++ decimal n ++ codes " has an unreadable type, or one of over 4,096 levels"
unread_text (unread.Step n) = codes "step " ++ decimal n ++ codes " is not an object with exactly the members `from`, `range`, `rule` and `type`, or `from`, `lower`, `rule` and `upper`"
unread_text (unread.Rule n) = codes "step " ++ decimal n ++ codes " does not name a rule of its kind"
unread_text (unread.Type n) = codes "step " ++ decimal n ++ codes " has an unreadable type, or one of over 4,096 levels"
unread_text (unread.Range n) = codes "step " ++ decimal n ++ codes " does not have a range of characters of the text"
unread_text (unread.From n) = codes "`from` of step " ++ decimal n ++ codes " is not a list of step numbers"
unread_text unread.Memory = codes "out of memory"

-- `NAME: MESSAGE`
abbrev pub refused_line : (name message : Text) → Text
refused_line name message = line (shown_line name ++ codes ": " ++ message)

-- ---- reports

-- The value is that of a readable derivation that is verified, and the line says so, with its context and the conclusion of its last step.
pub record IsAccepted (name : Text) (encoding : Encoding) (text : List ℕ) (value : Data) (d : Dialect) (report : Text) : Type 0 where
  pub sent : IsVerifiedValue encoding text value d
  pub readable : IsReadable text sent.derivation
  pub shown : report ≡ accepted_line name text sent.derivation

-- The value is that of a readable derivation that is not verified, and the line has the message of what is wrong with it first.
pub record IsRefused (name : Text) (encoding : Encoding) (text : List ℕ) (value : Data) (d : Dialect) (report : Text) : Type 0 where
  pub derivation : Derivation
  pub is_value : value ≡ derivation_value encoding text (Some derivation)
  pub readable : IsReadable text derivation
  pub not_verified : IsVerified text derivation d → ⊥
  pub fault : FirstFault
  pub first : IsFirstFault text derivation d fault
  pub shown : report ≡ refused_line name (message fault)

-- The value is that of no readable derivation, and the line says why it is not read.
pub record IsUnreadable (name : Text) (encoding : Encoding) (text : List ℕ) (value : Data) (report : Text) : Type 0 where
  pub unreadable : (derivation : Derivation) → IsReadable text derivation → value ≡ derivation_value encoding text (Some derivation) → ⊥
  pub reason : Unread
  pub right : IsWrongFor encoding text value reason
  pub shown : report ≡ refused_line name (unread_text reason)

-- The report on a value that was sent, with this position encoding, as a derivation of a text under this name. It is counted unless it is accepted.
pub data IsVerdict (name : Text) (encoding : Encoding) (text : List ℕ) (value : Data) (d : Dialect) (report : Text) : (count : ℕ) → Type 0 where
  accepts : IsAccepted name encoding text value d report → IsVerdict name encoding text value d report 0
  refuses : IsRefused name encoding text value d report → IsVerdict name encoding text value d report 1
  reads_none : IsUnreadable name encoding text value report → IsVerdict name encoding text value d report 1
