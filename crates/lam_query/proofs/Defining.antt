-- What the name under the cursor is bound to, and the uses of that, from the rows of a text's table.
use Rattle.std.proofs.Common.{◌≡◌, ℕ, ◌+◌, List, [], ◌∷◌, ◌++◌, Bool, true, false, if◌then◌else◌, Option, Some, None, map, length, refl, sym, ap, subst, ◌∙◌, arith}
use Rattle.std.specs.Prelude.{slice_index_or}
use Rattle.std.specs.Option.{option_map, option_and_then}
use Rattle.std.specs.List.{All, AllByRecursion}
use Rattle.std.proofs.lemmas.List.Elements.{All-from_recursion}
use Rattle.lam_token.specs.declared.span.Span.{Span}
use Rattle.lam_token.specs.Lexeme.{Lexeme, start_of}
use Rattle.lam_token.specs.Cut.{AreTokensOf}
use Rattle.lam_token.proofs.SomeCut.{tokens_at, are_tokens_at}
use Rattle.lam_syntax.specs.Trees.{CommandTree}
use Rattle.lam_syntax.specs.Views.{command_of}
use Rattle.lam_syntax.specs.Answers.{pieces_of}
use Rattle.lam_scope.specs.Tables.{Table, table, binder_numbered, binder_at, use_tokens, tokens_by}
use Rattle.lam_scope.specs.Mentions.{mentions, bound_at, uses_of, Ascend}
use Rattle.lam_scope.specs.Views.{AreScopesOf, table_of, uses_in}
use Rattle.lam_scope.specs.declared.scopes.Scopes.{Scopes}
use Rattle.lam_scope.proofs.SpelledMentions.{spelled_ascend}
use Rattle.lam_scope.proofs.TokenLists.{tokens_by-at}
use Rattle.lam_scope.proofs.BoundMentions.{bound_told, uses_told, own_answer}
use Rattle.lam_scope.proofs.EveryElement.{every_append}
use Rattle.lam_query.specs.declared.reading.Parsed.{Parsed}
use Rattle.lam_query.specs.Commands.{AreCommandsOf}
use Rattle.lam_query.specs.Touched.{touched}
use Rattle.lam_query.specs.Definitions.{definition_in, references_to, IsDefinitionIn, AreReferencesIn}
use Rattle.lam_query.specs.inner.Reading.{IsRead}
use Rattle.lam_query.specs.Within.{IsSpanOfText}
use Rattle.lam_query.proofs.TextPlaces.{commands_stand}
use Rattle.lam_query.proofs.Innermost.{text_spelled}
use Rattle.lam_query.proofs.PieceLaws.{some_commands}
use Rattle.lam_query.proofs.MentionPlaces.{binder_in as binder_place, uses_in as uses_places}

-- the byte at which the name under the cursor begins, or none
abbrev pub IsTouched : List ℕ → (offset : ℕ) → Option ℕ → Type 0
IsTouched text o start = (tokens : List Lexeme) → AreTokensOf text tokens → start ≡ option_map start_of (touched o tokens)

-- the mentions of a text ascend
pub text_ascends : (text : List ℕ) (ts : List Lexeme) (cs : List CommandTree) → AreTokensOf text ts → AreCommandsOf (pieces_of ts) cs → (high : ℕ) × Ascend 0 (mentions cs) high
text_ascends text ts cs are commands = spelled_ascend cs (text_spelled text cs (record { tokens = ts; are_tokens = are; are_commands = commands }))

-- the definition of the touched name is that of the name that begins there

pub bound_nowhere : (cs : List CommandTree) (t : Option Lexeme) → None ≡ option_map start_of t → None ≡ option_and_then (λ u. bound_at (start_of u) (mentions cs)) t
bound_nowhere cs None is = refl
bound_nowhere cs (Some t) is = absurd cc

pub bound_there : (cs : List CommandTree) (start : ℕ) (t : Option Lexeme) → Some start ≡ option_map start_of t → bound_at start (mentions cs) ≡ option_and_then (λ u. bound_at (start_of u) (mentions cs)) t
bound_there cs start None is = absurd cc
bound_there cs start (Some t) is = let same : start ≡ start_of t = cc in ap (λ n. bound_at n (mentions cs)) same

-- no name is touched

pub no_definition : (text : List ℕ) (o : ℕ) → IsTouched text o None → IsDefinitionIn text o None
no_definition text o none =
    let tokens = tokens_at 0 text in
    let are = are_tokens_at 0 text in
    let commands = some_commands (pieces_of tokens) in
    record { tokens = tokens; are_tokens = are; commands = commands.0; are_commands = commands.1; told = bound_nowhere commands.0 (touched o tokens) (none tokens are) }

pub no_references : (text : List ℕ) (o : ℕ) (declared : Bool) → IsDefinitionIn text o None → AreReferencesIn text o declared None
no_references text o declared h = record {
  tokens = h.tokens;
  are_tokens = h.are_tokens;
  commands = h.commands;
  are_commands = h.are_commands;
  told = ap (option_map (references_to h.commands declared)) h.told;
}

-- the binder of a row

abbrev pub commands_read : Parsed → List CommandTree
commands_read parsed = map command_of parsed.commands.items

abbrev pub token_in : Scopes → ℕ → Span
token_in scopes n = (binder_numbered (table_of scopes) n).token

row_bound : (text : List ℕ) (start : ℕ) (parsed : Parsed) (scopes : Scopes) → IsRead text parsed → AreScopesOf scopes (commands_read parsed)
    → option_map (token_in scopes) (binder_at (table_of scopes) start) ≡ bound_at start (mentions (commands_read parsed))
row_bound text start parsed scopes read of =
    let cs = commands_read parsed in
    let ascend = text_ascends text read.tokens cs read.are_tokens read.commands in
    subst (λ (t : Table). option_map (λ n. (binder_numbered t n).token) (binder_at t start) ≡ bound_at start (mentions cs)) (sym of.same_table) (bound_told cs ascend.0 start ascend.1)

row_told : (text : List ℕ) (o start : ℕ) (answer : Option ℕ) (parsed : Parsed) (scopes : Scopes) (read : IsRead text parsed) → AreScopesOf scopes (commands_read parsed) → IsTouched text o (Some start)
    → answer ≡ binder_at (table_of scopes) start → option_map (token_in scopes) answer ≡ definition_in read.tokens (commands_read parsed) o
row_told text o start answer parsed scopes read of is_touched at =
    ap (option_map (token_in scopes)) at
    ∙ row_bound text start parsed scopes read of
    ∙ bound_there (commands_read parsed) start (touched o read.tokens) (is_touched read.tokens read.are_tokens)

pub row_defines : (text : List ℕ) (o start : ℕ) (answer : Option ℕ) (token : Option Span) (parsed : Parsed) (scopes : Scopes) → IsRead text parsed → AreScopesOf scopes (commands_read parsed)
    → IsTouched text o (Some start) → answer ≡ binder_at (table_of scopes) start → token ≡ option_map (token_in scopes) answer → IsDefinitionIn text o token
row_defines text o start answer token parsed scopes read of is_touched at is = record {
  tokens = read.tokens;
  are_tokens = read.are_tokens;
  commands = commands_read parsed;
  are_commands = read.commands;
  told = is ∙ row_told text o start answer parsed scopes read of is_touched at;
}

-- the uses of that binder

used_in : (cs : List CommandTree) (t : Table) (lists : List (List Span)) (high start n : ℕ) → t ≡ table cs → lists ≡ tokens_by 0 (length (table cs).binders) (table cs).uses → Ascend 0 (mentions cs) high
    → Some n ≡ binder_at t start → slice_index_or lists (binder_numbered t n).answer [] ≡ uses_of (binder_numbered t n).token (mentions cs)
used_in cs t lists high start n same listed ascend at =
    let here : binder_at (table cs) start ≡ Some n = sym (at ∙ ap (λ u. binder_at u start) same) in
    let own = own_answer cs start n here in
    let all = tokens_by 0 (length (table cs).binders) (table cs).uses in
    let first : 0 + n ≡ n = omega arith in
    (λ i. slice_index_or (listed i) (binder_numbered (same i) n).answer [])
    ∙ ap (λ k. slice_index_or all k []) own.1
    ∙ tokens_by-at (table cs).uses 0 (length (table cs).binders) n own.0.inside
    ∙ ap (λ k. use_tokens k (table cs).uses) first
    ∙ uses_told cs high start n ascend here
    ∙ ap (λ (u : Table). uses_of (binder_numbered u n).token (mentions cs)) (sym same)

row_used : (text : List ℕ) (start n : ℕ) (parsed : Parsed) (scopes : Scopes) → IsRead text parsed → AreScopesOf scopes (commands_read parsed) → Some n ≡ binder_at (table_of scopes) start
    → slice_index_or (uses_in scopes) (binder_numbered (table_of scopes) n).answer [] ≡ uses_of (token_in scopes n) (mentions (commands_read parsed))
row_used text start n parsed scopes read of at =
    let cs = commands_read parsed in
    let ascend = text_ascends text read.tokens cs read.are_tokens read.commands in
    used_in cs (table_of scopes) (uses_in scopes) ascend.0 start n of.same_table of.same_uses ascend.1 at

-- the uses behind the binder, or alone

abbrev pub behind_token : Bool → Span → List Span
behind_token declared b = if declared then b ∷ [] else []

pub token_put : (declared : Bool) (b c : Span) (new front : List Span) → declared ≡ true → new ≡ [] → front ≡ new ++ b ∷ [] → b ≡ c → front ≡ behind_token declared c
token_put declared b c new front asked none put is = put ∙ (λ i. none i ++ is i ∷ []) ∙ ap (λ d. behind_token d c) (sym asked)

pub nothing_put : (declared : Bool) (c : Span) (new front : List Span) → declared ≡ false → new ≡ [] → front ≡ new → front ≡ behind_token declared c
nothing_put declared c new front not_asked none same = same ∙ none ∙ ap (λ d. behind_token d c) (sym not_asked)

behind_or_alone : (declared : Bool) (b : Span) (front uses spans : List Span) → front ≡ behind_token declared b → spans ≡ front ++ uses → spans ≡ (if declared then b ∷ uses else uses)
behind_or_alone true b front uses spans first joined = joined ∙ ap (λ ss. ss ++ uses) first
behind_or_alone false b front uses spans first joined = joined ∙ ap (λ ss. ss ++ uses) first

pub row_references : (text : List ℕ) (o start n : ℕ) (declared : Bool) (front uses spans : List Span) (parsed : Parsed) (scopes : Scopes) → IsRead text parsed
    → AreScopesOf scopes (commands_read parsed) → IsTouched text o (Some start) → Some n ≡ binder_at (table_of scopes) start
    → uses ≡ slice_index_or (uses_in scopes) (binder_numbered (table_of scopes) n).answer [] → front ≡ behind_token declared (token_in scopes n) → spans ≡ front ++ uses → AreReferencesIn text o declared (Some spans)
row_references text o start n declared front uses spans parsed scopes read of is_touched at are first joined =
    let cs = commands_read parsed in
    let listed : spans ≡ references_to cs declared (token_in scopes n) =
    behind_or_alone declared (token_in scopes n) front _ spans first (joined ∙ ap (λ us. front ++ us) (are ∙ row_used text start n parsed scopes read of at)) in
    record {
      tokens = read.tokens;
      are_tokens = read.are_tokens;
      commands = cs;
      are_commands = read.commands;
      told = ap Some listed ∙ ap (option_map (references_to cs declared)) (row_told text o start (Some n) parsed scopes read of is_touched at);
    }

-- their places

pub row_stands : (text : List ℕ) (start n : ℕ) (b : Span) (parsed : Parsed) (scopes : Scopes) → IsRead text parsed → AreScopesOf scopes (commands_read parsed) → Some n ≡ binder_at (table_of scopes) start
    → b ≡ token_in scopes n → IsSpanOfText text b
row_stands text start n b parsed scopes read of at is =
    let cs = commands_read parsed in
    let stand = commands_stand text read.tokens cs read.whole read.commands in
    let bound : bound_at start (mentions cs) ≡ Some b = sym (row_bound text start parsed scopes read of) ∙ ap (option_map (token_in scopes)) (sym at) ∙ ap Some (sym is) in
    binder_place (IsSpanOfText text) cs stand start b bound

front_stands : (text : List ℕ) (declared : Bool) (b : Span) → IsSpanOfText text b → AllByRecursion (IsSpanOfText text) (behind_token declared b)
front_stands text true b h = (h, tt)
front_stands text false b h = tt

pub rows_stand : (text : List ℕ) (start n : ℕ) (declared : Bool) (front uses spans : List Span) (parsed : Parsed) (scopes : Scopes) → IsRead text parsed
    → AreScopesOf scopes (commands_read parsed) → Some n ≡ binder_at (table_of scopes) start
    → uses ≡ slice_index_or (uses_in scopes) (binder_numbered (table_of scopes) n).answer [] → front ≡ behind_token declared (token_in scopes n) → spans ≡ front ++ uses → All (IsSpanOfText text) spans
rows_stand text start n declared front uses spans parsed scopes read of at are first joined =
    let cs = commands_read parsed in
    let stand = commands_stand text read.tokens cs read.whole read.commands in
    let of_binder = front_stands text declared (token_in scopes n) (row_stands text start n (token_in scopes n) parsed scopes read of at refl) in
    let of_uses = uses_places (IsSpanOfText text) cs stand (token_in scopes n) in
    let all : spans ≡ behind_token declared (token_in scopes n) ++ uses_of (token_in scopes n) (mentions cs) = joined ∙ (λ i. first i ++ (are ∙ row_used text start n parsed scopes read of at) i) in
    All-from_recursion (IsSpanOfText text) spans (subst (AllByRecursion (IsSpanOfText text)) (sym all) (every_append (IsSpanOfText text) _ _ of_binder of_uses))
