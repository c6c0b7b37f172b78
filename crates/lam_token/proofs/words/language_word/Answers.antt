use Rattle.std.proofs.Common.{◌≡◌, ℕ, List, length, sym, ◌∙◌, refl, arith}
use Rattle.std.specs.Prelude.{codes}
use Rattle.std.proofs.lemmas.Slice.Eq.{HasBytesAt, text_from_reads}
use Rattle.lam_token.specs.Words.{words}
use Rattle.lam_token.proofs.words.language_word.Goals as goal

-- Words of four letters and more. The shorter ones are found letter by letter.

is_word : (text bytes word : List ℕ) → bytes ≡ text → length bytes ≡ length word → HasBytesAt bytes 0 word → text ≡ word
is_word text bytes word same long letters = sym same ∙ text_from_reads bytes word long letters

pub returns-in-lambda : goal.returns-in-lambda
unfolding words
returns-in-lambda c = rw (is_word c.args.word.now c.as_bytes.result.now (codes "lambda") (cc) (omega arith) (omega arith, (omega arith, (omega arith, (omega arith, (omega arith, (omega arith, tt))))))) refl

pub returns-in-then : goal.returns-in-then
unfolding words
returns-in-then c = rw (is_word c.args.word.now c.as_bytes.result.now (codes "then") (cc) (omega arith) (omega arith, (omega arith, (omega arith, (omega arith, tt))))) refl

pub returns-in-else : goal.returns-in-else
unfolding words
returns-in-else c = rw (is_word c.args.word.now c.as_bytes.result.now (codes "else") (cc) (omega arith) (omega arith, (omega arith, (omega arith, (omega arith, tt))))) refl

pub returns-in-letrec : goal.returns-in-letrec
unfolding words
returns-in-letrec c = rw (is_word c.args.word.now c.as_bytes.result.now (codes "letrec") (cc) (omega arith) (omega arith, (omega arith, (omega arith, (omega arith, (omega arith, (omega arith, tt))))))) refl

pub returns-in-succ : goal.returns-in-succ
unfolding words
returns-in-succ c = rw (is_word c.args.word.now c.as_bytes.result.now (codes "succ") (cc) (omega arith) (omega arith, (omega arith, (omega arith, (omega arith, tt))))) refl

pub returns-in-pred : goal.returns-in-pred
unfolding words
returns-in-pred c = rw (is_word c.args.word.now c.as_bytes.result.now (codes "pred") (cc) (omega arith) (omega arith, (omega arith, (omega arith, (omega arith, tt))))) refl

pub returns-in-iszero : goal.returns-in-iszero
unfolding words
returns-in-iszero c = rw (is_word c.args.word.now c.as_bytes.result.now (codes "iszero") (cc) (omega arith) (omega arith, (omega arith, (omega arith, (omega arith, (omega arith, (omega arith, tt))))))) refl

pub returns-in-true : goal.returns-in-true
unfolding words
returns-in-true c = rw (is_word c.args.word.now c.as_bytes.result.now (codes "true") (cc) (omega arith) (omega arith, (omega arith, (omega arith, (omega arith, tt))))) refl

pub returns-in-false : goal.returns-in-false
unfolding words
returns-in-false c = rw (is_word c.args.word.now c.as_bytes.result.now (codes "false") (cc) (omega arith) (omega arith, (omega arith, (omega arith, (omega arith, (omega arith, tt)))))) refl

pub returns-in-unit : goal.returns-in-unit
unfolding words
returns-in-unit c = rw (is_word c.args.word.now c.as_bytes.result.now (codes "unit") (cc) (omega arith) (omega arith, (omega arith, (omega arith, (omega arith, tt))))) refl

pub returns-in-Bool : goal.returns-in-Bool
unfolding words
returns-in-Bool c = rw (is_word c.args.word.now c.as_bytes.result.now (codes "Bool") (cc) (omega arith) (omega arith, (omega arith, (omega arith, (omega arith, tt))))) refl

pub returns-in-Unit : goal.returns-in-Unit
unfolding words
returns-in-Unit c = rw (is_word c.args.word.now c.as_bytes.result.now (codes "Unit") (cc) (omega arith) (omega arith, (omega arith, (omega arith, (omega arith, tt))))) refl
