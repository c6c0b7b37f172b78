-- Why a value cannot be read as a derivation of a text: it is not an object with two lists; or an entry of its context, or else a step, cannot be read, and the reason is that of the first such.
use Rattle.std.specs.Prelude.{◌≡◌, ◌≢◌, ◌⊎◌, ℕ, List, ◌∷◌, ◌++◌, length, codes, All, IfSome}
use Rattle.serde_json.specs.Data.{Data, null, string, array, object, member, no_members}
use Rattle.serde_json.specs.View.{items_of}
use Rattle.lam_rules.specs.Rules.{name_of_sub_rule, name_of_type_rule}
use Rattle.lam_rules.specs.Texts.{Text, plain_text}
use Rattle.lam_rules.specs.Types.{Typ}
use Rattle.lam_rules.specs.declared.rules.SubRule.{SubRule}
use Rattle.lam_rules.specs.declared.rules.TypeRule.{TypeRule}
use Rattle.lam_text.specs.declared.units.Encoding.{Encoding}
use Rattle.lam_token.specs.declared.span.Span.{Span}
use Rattle.lam_query.specs.Derivations.{ContextEntry}
use Rattle.lam_query.specs.Steps.{Step}
use Rattle.lam_session.specs.Derivations.{entry_value, premises_value, step_value}
use Rattle.lam_session.specs.Ranges.{range_value}
use Rattle.lam_check.specs.Readable.{IsReadableConclusion, IsReadableSpan, IsReadableType}
use Rattle.lam_check.specs.declared.read_derivations.Unread.{Unread}
use Rattle.lam_check.specs.declared.read_derivations.Unread.TheVariants as unread

-- ---- objects

-- an object with the members of a derivation, as in `derivation_value`
abbrev pub derivation_members : (context steps : List Data) → Data
derivation_members context steps = object (member (codes "context") (array (items_of context)) (member (codes "steps") (array (items_of steps)) no_members))

-- one with the members of a context entry, as in `entry_value`
abbrev pub entry_members : (name type : Data) → Data
entry_members name type = object (member (codes "name") name (member (codes "type") type no_members))

-- one with the members of a typing step, as in `conclusion_value`
abbrev pub typing_members : (from range rule type : Data) → Data
typing_members from range rule type =
    object (member (codes "from") from (member (codes "range") range (member (codes "rule") rule (member (codes "type") type no_members))))

-- one with the members of a subtyping step, as in `conclusion_value`
abbrev pub subtyping_members : (from lower rule upper : Data) → Data
subtyping_members from lower rule upper =
    object (member (codes "from") from (member (codes "lower") lower (member (codes "rule") rule (member (codes "upper") upper no_members))))

-- ---- what is read

-- the value of a context entry whose type is readable
abbrev pub IsReadableEntry : Data → Type 0
IsReadableEntry value = (entry : ContextEntry) × IfSome entry.type IsReadableType × (value ≡ entry_value entry)

-- the value of a step whose types and range are readable
abbrev pub IsReadableStep : Encoding → List ℕ → Data → Type 0
IsReadableStep encoding text value = (step : Step) × IsReadableConclusion text step.conclusion × (value ≡ step_value encoding text step)

-- ---- members that are wrong

-- not the text of a readable type
abbrev pub IsNoReadableType : Data → Type 0
IsNoReadableType value = (t : Typ) → IsReadableType t → value ≢ string (plain_text t)

-- not a list of natural numbers
abbrev pub AreNoPremises : Data → Type 0
AreNoPremises value = (numbers : List ℕ) → value ≢ premises_value numbers

-- not the range of a readable span
abbrev pub IsNoReadableRange : Encoding → List ℕ → Data → Type 0
IsNoReadableRange encoding text value = (span : Span) → IsReadableSpan text span → value ≢ range_value encoding text span

-- not the name of a typing rule
abbrev pub IsNoTypeRule : Data → Type 0
IsNoTypeRule value = (rule : TypeRule) → value ≢ string (name_of_type_rule rule)

-- not the name of a subtyping rule
abbrev pub IsNoSubRule : Data → Type 0
IsNoSubRule value = (rule : SubRule) → value ≢ string (name_of_sub_rule rule)

-- ---- entries and steps that are wrong

-- The context entry with this number is wrong for this reason.
abbrev pub IsWrongEntry : (value : Data) → (number : ℕ) → Unread → Type 0
IsWrongEntry value number (unread.Entry n) = (n ≡ number) × ((name : Text) (type : Data) → value ≢ entry_members (string name) type)
IsWrongEntry value number (unread.EntryType n) = (n ≡ number) × (name : Text) × (type : Data) × (value ≡ entry_members (string name) type) × (type ≢ null) × IsNoReadableType type
IsWrongEntry value number _ = ⊥

-- The typing step with this number and these members is wrong for this reason.
abbrev pub IsWrongTyping : Encoding → List ℕ → (from range rule type : Data) → (number : ℕ) → Unread → Type 0
IsWrongTyping encoding text from range rule type number (unread.Rule n) = (n ≡ number) × IsNoTypeRule rule
IsWrongTyping encoding text from range rule type number (unread.From n) = (n ≡ number) × AreNoPremises from
IsWrongTyping encoding text from range rule type number (unread.Range n) = (n ≡ number) × IsNoReadableRange encoding text range
IsWrongTyping encoding text from range rule type number (unread.Type n) = (n ≡ number) × IsNoReadableType type
IsWrongTyping encoding text from range rule type number _ = ⊥

-- The subtyping step with this number and these members is wrong for this reason.
abbrev pub IsWrongSubtyping : (from lower rule upper : Data) → (number : ℕ) → Unread → Type 0
IsWrongSubtyping from lower rule upper number (unread.Rule n) = (n ≡ number) × IsNoSubRule rule
IsWrongSubtyping from lower rule upper number (unread.From n) = (n ≡ number) × AreNoPremises from
IsWrongSubtyping from lower rule upper number (unread.Type n) = (n ≡ number) × (IsNoReadableType lower ⊎ IsNoReadableType upper)
IsWrongSubtyping from lower rule upper number _ = ⊥

-- The step with this number is wrong for this reason.
pub data IsWrongStep (encoding : Encoding) (text : List ℕ) (value : Data) (number : ℕ) (reason : Unread) : Type 0 where
  no_step : reason ≡ unread.Step number → ((from range rule type : Data) → value ≢ typing_members from range rule type)
      → ((from lower rule upper : Data) → value ≢ subtyping_members from lower rule upper) → IsWrongStep encoding text value number reason
  in_typing : (from range rule type : Data) → value ≡ typing_members from range rule type → IsWrongTyping encoding text from range rule type number reason
      → IsWrongStep encoding text value number reason
  in_subtyping : (from lower rule upper : Data) → value ≡ subtyping_members from lower rule upper → IsWrongSubtyping from lower rule upper number reason
      → IsWrongStep encoding text value number reason

-- ---- the first of them

-- All values before one are right, and that one is wrong for this reason. They are numbered from 0.
pub record IsFirstWrong (IsRight : Data → Type 0) (IsWrong : Data → ℕ → Unread → Type 0) (values : List Data) (reason : Unread) : Type 0 where
  pub before : List Data
  pub value : Data
  pub behind : List Data
  pub split : values ≡ before ++ value ∷ behind
  pub right : All IsRight before
  pub wrong : IsWrong value (length before) reason

-- The value is not read as a derivation of the text for this reason.
pub data IsWrongFor (encoding : Encoding) (text : List ℕ) (value : Data) (reason : Unread) : Type 0 where
  no_lists : reason ≡ unread.Derivation → ((context steps : List Data) → value ≢ derivation_members context steps) → IsWrongFor encoding text value reason
  in_context : (context steps : List Data) → value ≡ derivation_members context steps → IsFirstWrong IsReadableEntry IsWrongEntry context reason
      → IsWrongFor encoding text value reason
  in_steps : (context steps : List Data) → value ≡ derivation_members context steps → All IsReadableEntry context
      → IsFirstWrong (IsReadableStep encoding text) (IsWrongStep encoding text) steps reason → IsWrongFor encoding text value reason
