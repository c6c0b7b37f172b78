-- Each offset of a text has one definition and one list of references, either of which may be none.
use Rattle.std.proofs.Common.{◌≡◌, ℕ, List, Bool, Option, sym, refl, ◌∙◌}
use Rattle.std.specs.Option.{option_map}
use Rattle.lam_token.specs.declared.span.Span.{Span}
use Rattle.lam_token.specs.Lexeme.{Lexeme}
use Rattle.lam_token.specs.Cut.{AreTokensOf}
use Rattle.lam_token.proofs.Cuts.{one_list}
use Rattle.lam_token.proofs.SomeCut.{tokens_at, are_tokens_at}
use Rattle.lam_syntax.specs.Trees.{CommandTree}
use Rattle.lam_syntax.specs.Answers.{pieces_of}
use Rattle.lam_query.specs.Commands.{AreCommandsOf}
use Rattle.lam_query.specs.Definitions.{definition_in, references_to, IsDefinitionIn, AreReferencesIn}
use Rattle.lam_query.proofs.OneAnswer.{one_document}
use Rattle.lam_query.proofs.PieceLaws.{some_commands}

-- a text has one list of tokens and one of commands, so what is told of both is one

pub one_told : {A : Type 0} (f : List Lexeme → List CommandTree → A) (text : List ℕ) (ts us : List Lexeme) (cs ds : List CommandTree) → AreTokensOf text ts → AreCommandsOf (pieces_of ts) cs
    → AreTokensOf text us → AreCommandsOf (pieces_of us) ds → f ts cs ≡ f us ds
one_told f text ts us cs ds are commands are' commands' =
    let tokens = one_list text us ts are' are in
    let trees =
    one_document text cs ds (record { tokens = ts; are_tokens = are; are_commands = commands }) (record { tokens = us; are_tokens = are'; are_commands = commands' }) in
    λ i. f (tokens i) (trees i)

pub one_definition : (text : List ℕ) (o : ℕ) (a b : Option Span) → IsDefinitionIn text o a → IsDefinitionIn text o b → a ≡ b
one_definition text o a b h k =
    h.told ∙ one_told (λ ts cs. definition_in ts cs o) text h.tokens k.tokens h.commands k.commands h.are_tokens h.are_commands k.are_tokens k.are_commands ∙ sym k.told

abbrev all_references : Bool → ℕ → List Lexeme → List CommandTree → Option (List Span)
all_references declared o ts cs = option_map (references_to cs declared) (definition_in ts cs o)

pub one_list_of_references : (text : List ℕ) (o : ℕ) (declared : Bool) (a b : Option (List Span)) → AreReferencesIn text o declared a → AreReferencesIn text o declared b → a ≡ b
one_list_of_references text o declared a b h k =
    h.told ∙ one_told (all_references declared o) text h.tokens k.tokens h.commands k.commands h.are_tokens h.are_commands k.are_tokens k.are_commands ∙ sym k.told

-- each text has tokens and commands

pub some_definition : (text : List ℕ) (o : ℕ) → (found : Option Span) × IsDefinitionIn text o found
some_definition text o =
    let ts = tokens_at 0 text in
    let cs = some_commands (pieces_of ts) in
    (definition_in ts cs.0 o, record { tokens = ts; are_tokens = are_tokens_at 0 text; commands = cs.0; are_commands = cs.1; told = refl })

pub some_references : (text : List ℕ) (o : ℕ) (declared : Bool) → (found : Option (List Span)) × AreReferencesIn text o declared found
some_references text o declared =
    let ts = tokens_at 0 text in
    let cs = some_commands (pieces_of ts) in
    (all_references declared o ts cs.0, record { tokens = ts; are_tokens = are_tokens_at 0 text; commands = cs.0; are_commands = cs.1; told = refl })
