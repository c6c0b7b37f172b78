-- Subterms that nest: the spans of a term's parts lie within its own, one after another.
use Rattle.std.specs.Prelude.{ℕ, ◌<◌, ◌≤◌, ◌≡◌, ◌⊎◌, true, List, [], ◌∷◌}
use Rattle.lam_token.specs.declared.span.Span.{Span}
use Rattle.lam_token.specs.declared.kind.Kind.TheVariants as kind
use Rattle.lam_token.specs.Lexeme.{Lexeme, lexeme}
use Rattle.lam_syntax.specs.Grammar.{Spells}
use Rattle.lam_syntax.specs.Trees.{CommandTree}
use Rattle.lam_scope.specs.Tables.{TextPlace, Table, is_over, place_row_numbered}

-- one span within another
abbrev pub IsWithin : Span → Span → Type 0
IsWithin s t = (t.start ≤ s.start) × (s.end ≤ t.end)

-- of two subterms, the earlier lies within the later or ends before it begins
abbrev pub Nests : TextPlace → TextPlace → Type 0
Nests p q = IsWithin p.span q.span ⊎ (p.span.end ≤ q.span.start)

-- that holds of this subterm and each of the later ones
abbrev pub NestsInAll : TextPlace → List TextPlace → Type 0
NestsInAll p [] = Unit {0}
NestsInAll p (q ∷ qs) = Nests p q × NestsInAll p qs

-- it holds of any two of these subterms
abbrev pub AreNested : List TextPlace → Type 0
AreNested [] = Unit {0}
AreNested (p ∷ ps) = NestsInAll p ps × AreNested ps

-- each subterm that contains the byte encloses this one
abbrev pub IsInnermost : (offset : ℕ) → Table → ℕ → Type 0
IsInnermost o t p = (q : ℕ) → is_over o (place_row_numbered t q) ≡ true → IsWithin (place_row_numbered t p).span (place_row_numbered t q).span

-- tokens between two byte offsets, none of them empty, one after another
abbrev pub TokensStand : (low : ℕ) → List Lexeme → (high : ℕ) → Type 0
TokensStand low [] high = low ≤ high
TokensStand low (lexeme k x s ∷ ts) high = (low ≤ s.start) × (s.start < s.end) × TokensStand s.end ts high

-- commands derived from such tokens, one command after another
abbrev pub AreSpelledFrom : (low : ℕ) → List CommandTree → Type 0
AreSpelledFrom low [] = Unit {0}
AreSpelledFrom low (c ∷ cs) = (ts : List Lexeme) × (high : ℕ) × Spells ts c × TokensStand low ts high × AreSpelledFrom high cs

-- the same for names and type names alone; other tokens may be anywhere
abbrev pub NamesStand : (low : ℕ) → List Lexeme → (high : ℕ) → Type 0
NamesStand low [] high = low ≤ high
NamesStand low (lexeme kind.Name x s ∷ ts) high = (low ≤ s.start) × (s.start < s.end) × NamesStand s.end ts high
NamesStand low (lexeme kind.TypeName x s ∷ ts) high = (low ≤ s.start) × (s.start < s.end) × NamesStand s.end ts high
NamesStand low (t ∷ ts) high = NamesStand low ts high

-- commands derived from such tokens, the names of one command after those of another
abbrev pub AreNamedFrom : (low : ℕ) → List CommandTree → Type 0
AreNamedFrom low [] = Unit {0}
AreNamedFrom low (c ∷ cs) = (ts : List Lexeme) × (high : ℕ) × Spells ts c × NamesStand low ts high × AreNamedFrom high cs
