-- If tokens of a text start a command, the text up to their end can go on so that a command begins with them: with tokens of the kinds still wanted.
use Rattle.std.proofs.Common.{◌≡◌, ℕ, true, false, List, [], ◌∷◌, ◌++◌, take, map, sym, refl, ap, ◌∙◌, subst, append_assoc}
use Rattle.std.specs.Str.{IsUtf8}
use Rattle.lam_token.specs.declared.kind.Kind.{Kind}
use Rattle.lam_token.specs.declared.kind.Kind.TheVariants as kind
use Rattle.lam_token.specs.Lexeme.{Lexeme, kind_of, start_of}
use Rattle.lam_token.specs.Cut.{AreTokensOf}
use Rattle.lam_token.proofs.SimpleTexts.{is_no_lexeme, AllGood}
use Rattle.lam_token.proofs.LongerTexts.{GoesOnTo, LastTokenCloses, text_goes_on, front_goes_on}
use Rattle.lam_syntax.specs.Answers.{is_bad}
use Rattle.lam_syntax.specs.Grammar.{Begins}
use Rattle.lam_syntax.specs.Continued.{IsContinued}
use Rattle.lam_syntax.proofs.SameKinds.{same_kinds_spell, NoneBad, command_good, good_parts}

-- what is not bad is a lexeme
good_is_lexeme : (k : Kind) → is_bad k ≡ false → is_no_lexeme k ≡ false
good_is_lexeme kind.BadCharacter good = good
good_is_lexeme kind.BadComment good = good
good_is_lexeme k good = refl

good_kinds : (ts : List Lexeme) → NoneBad ts → AllGood (map kind_of ts)
good_kinds [] good = tt
good_kinds (t ∷ ts) good = (good_is_lexeme (kind_of t) good.0, good_kinds ts good.1)

same_behind : (ts more rest : List Lexeme) → map kind_of more ≡ map kind_of rest → map kind_of (ts ++ more) ≡ map kind_of (ts ++ rest)
same_behind [] more rest same = same
same_behind (t ∷ ts) more rest same = ap (λ l. kind_of t ∷ l) (same_behind ts more rest same)

-- the kinds of the tokens that are still wanted to make a command of these
wanted : (tokens : List Lexeme) → Begins tokens → List Kind
wanted tokens begins = map kind_of begins.0

wanted_good : (tokens : List Lexeme) (begins : Begins tokens) → NoneBad tokens × AllGood (wanted tokens begins)
unfolding wanted
wanted_good tokens begins = let good = good_parts tokens begins.0 (command_good (tokens ++ begins.0) begins.1 begins.2) in (good.0, good_kinds begins.0 good.1)

-- a text that goes on to these kinds goes on to a command
continued : (front : List ℕ) (before tokens : List Lexeme) → (begins : Begins tokens) → GoesOnTo front (before ++ tokens) (wanted tokens begins) → IsContinued front before tokens
unfolding wanted
continued front before tokens begins found =
    let spelled = same_kinds_spell (tokens ++ begins.0) (tokens ++ found.rest) begins.1 (same_behind tokens begins.0 found.rest (sym found.are_kinds)) begins.2 in
    record {
      more = found.more;
      rest = found.rest;
      command = spelled.0;
      is_text = found.is_text;
      are_tokens = subst (AreTokensOf (front ++ found.more)) (append_assoc before tokens found.rest) found.are_tokens;
      is_command = spelled.1;
    }

-- ---- at the end of a text

good_closes : (t : Lexeme) → is_bad (kind_of t) ≡ false → kind_of t ≡ kind.BadComment → ⊥
good_closes t good is = let both : true ≡ false = sym (ap is_bad is) ∙ good in absurd cc

last_closes : (ts : List Lexeme) → NoneBad ts → LastTokenCloses ts
last_closes [] good = tt
last_closes (t ∷ []) good = good_closes t good.0
last_closes (t ∷ u ∷ ts) good = last_closes (u ∷ ts) good.1

last_behind : (before : List Lexeme) (t : Lexeme) (ts : List Lexeme) → LastTokenCloses (t ∷ ts) → LastTokenCloses (before ++ (t ∷ ts))
last_behind [] t ts closes = closes
last_behind (x ∷ []) t ts closes = closes
last_behind (x ∷ y ∷ before) t ts closes = last_behind (y ∷ before) t ts closes

pub whole_continued : (text : List ℕ) (tokens : List Lexeme) → IsUtf8 text → AreTokensOf text tokens → Begins tokens → IsContinued text [] tokens
whole_continued text tokens is_text are begins =
    let good = wanted_good tokens begins in
    continued text [] tokens begins (text_goes_on text tokens (wanted tokens begins) is_text are (last_closes tokens good.0) good.1)

pub last_continued : (text : List ℕ) (before : List Lexeme) (t : Lexeme) (ts : List Lexeme) → IsUtf8 text → AreTokensOf text (before ++ (t ∷ ts)) → Begins (t ∷ ts) → IsContinued text before (t ∷ ts)
last_continued text before t ts is_text are begins =
    let good = wanted_good (t ∷ ts) begins in
    continued text before (t ∷ ts) begins
    (text_goes_on text (before ++ (t ∷ ts)) (wanted (t ∷ ts) begins) is_text are (last_behind before t ts (last_closes (t ∷ ts) good.0)) good.1)

-- ---- in front of another token

pub inside_continued : (text : List ℕ) (before tokens : List Lexeme) (t : Lexeme) (behind : List Lexeme) → IsUtf8 text → AreTokensOf text (before ++ (tokens ++ (t ∷ behind))) → Begins tokens
    → IsContinued (take (start_of t) text) before tokens
inside_continued text before tokens t behind is_text are begins =
    continued (take (start_of t) text) before tokens begins
    (front_goes_on text (before ++ tokens) t behind (wanted tokens begins) is_text (subst (AreTokensOf text) (sym (append_assoc before tokens (t ∷ behind))) are) (wanted_good tokens begins).1)

-- ---- and only then

pub continued_begins : (front : List ℕ) (before tokens : List Lexeme) → IsContinued front before tokens → Begins tokens
continued_begins front before tokens found = (found.rest, found.command, found.is_command)
