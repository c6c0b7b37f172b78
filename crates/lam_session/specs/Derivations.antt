-- Replies to derivation requests, which are specific to this server.
use Rattle.std.specs.Prelude.{◌≡◌, ℕ, List, codes, map, Option, None, Some}
use Rattle.serde_json.specs.Data.{Data, null, number, unsigned, string, array, object, member, no_members}
use Rattle.serde_json.specs.View.{items_of}
use Rattle.lam_rpc.specs.Reply.{result_reply}
use Rattle.lam_rules.specs.Types.{Typ}
use Rattle.lam_rules.specs.Texts.{plain_text}
use Rattle.lam_rules.specs.Rules.{name_of_sub_rule, name_of_type_rule}
use Rattle.lam_rules.specs.declared.rules.Dialect.{Dialect}
use Rattle.lam_text.specs.declared.units.Encoding.{Encoding}
use Rattle.lam_query.specs.Steps.{Conclusion, typing, subtyping, Step}
use Rattle.lam_query.specs.Derivations.{ContextEntry, Derivation, IsDerivedIn}
use Rattle.lam_session.specs.Ranges.{range_value}

-- the text of a context entry's type, with the fields in their own order; null if it has none
abbrev pub type_value : Option Typ → Data
type_value None = null
type_value (Some t) = string (plain_text t)

-- a context entry: its name and its type
abbrev pub entry_value : ContextEntry → Data
entry_value e = object (member (codes "name") (string e.name) (member (codes "type") (type_value e.type) no_members))

-- the indices of the premises of a step
abbrev pub premises_value : List ℕ → Data
premises_value numbers = array (items_of (map (λ n. number (unsigned n)) numbers))

-- the conclusion of a step, with its rule and its premises
abbrev pub conclusion_value : Encoding → List ℕ → List ℕ → Conclusion → Data
conclusion_value encoding text premises (typing rule span type) =
    object (member (codes "from") (premises_value premises)
    (member (codes "range") (range_value encoding text span)
    (member (codes "rule") (string (name_of_type_rule rule))
    (member (codes "type") (string (plain_text type)) no_members))))
conclusion_value encoding text premises (subtyping rule lower upper) =
    object (member (codes "from") (premises_value premises)
    (member (codes "lower") (string (plain_text lower))
    (member (codes "rule") (string (name_of_sub_rule rule))
    (member (codes "upper") (string (plain_text upper)) no_members))))

-- a step of a proof
abbrev pub step_value : Encoding → List ℕ → Step → Data
step_value encoding text step = conclusion_value encoding text step.premises step.conclusion

-- the context and the steps; null if there is no derivation
abbrev pub derivation_value : Encoding → List ℕ → Option Derivation → Data
derivation_value encoding text None = null
derivation_value encoding text (Some d) =
    object (member (codes "context") (array (items_of (map entry_value d.context)))
    (member (codes "steps") (array (items_of (map (step_value encoding text) d.steps))) no_members))

-- The reply shows a derivation of the type of the innermost term around the offset: any proof that ends in the type shown.
pub record IsDerivationReply (encoding : Encoding) (d : Dialect) (text : List ℕ) (offset : ℕ) (id reply : Data) : Type 0 where
  pub derived : Option Derivation
  pub right : IsDerivedIn text offset derived d
  pub replied : reply ≡ result_reply id (derivation_value encoding text derived)

-- such a reply with a proof, for which another proof might be given
pub record GivesDerivation (encoding : Encoding) (d : Dialect) (text : List ℕ) (offset : ℕ) (id reply : Data) : Type 0 where
  pub derivation : Derivation
  pub right : IsDerivedIn text offset (Some derivation) d
  pub replied : reply ≡ result_reply id (derivation_value encoding text (Some derivation))
