-- Derivations drawn as trees.
use Rattle.std.specs.Prelude.{◌≡◌, ◌⊎◌, ℕ, suc, ◌+◌, ◌*◌, ◌/◌, ◌-◌, ◌==◌, Bool, List, [], ◌∷◌, ◌++◌, Option, Some, None, codes, chars, encode_utf8, flat_map, replicate, if◌then◌else◌}
use Rattle.std.specs.List.{list_any, repeat}
use Rattle.lam_rules.specs.Rules.{name_of_sub_rule, name_of_type_rule}
use Rattle.lam_rules.specs.Texts.{Text, plain_text}
use Rattle.lam_rules.specs.declared.rules.Dialect.{Dialect}
use Rattle.lam_text.specs.Positions.{offset_of, position_of}
use Rattle.lam_text.specs.declared.places.Position.{Position}
use Rattle.lam_text.specs.declared.units.Encoding.TheVariants.{Utf32}
use Rattle.lam_query.specs.Derivations.{Derivation, IsDerivedIn}
use Rattle.lam_query.specs.Steps.{Conclusion, typing, subtyping, Proof, concludes, Proofs, no_proofs, proof_first, steps_of}
use Rattle.lam_check.specs.Terms.{shown_term, first_role}
use Rattle.lam_check.specs.declared.terms.Role.{Role}
use Rattle.lam_check.specs.declared.terms.Role.TheVariants as roles
use Rattle.lam_check.specs.declared.forms.Form.{Form}
use Rattle.lam_check.specs.declared.forms.Form.TheVariants as forms
use Rattle.lam_check.specs.declared.forms.Markup.{Markup}
use Rattle.lam_check.specs.declared.forms.Markup.TheVariants as marks

-- ---- conclusions

-- `TERM : TYPE` or `TYPE <: TYPE`, with the fields of each record type in their own order; the term has this role
abbrev pub claim_text : List ℕ → Role → Conclusion → Text
claim_text text role (typing rule s type) = shown_term text role s ++ codes " : " ++ plain_text type
claim_text text role (subtyping rule lower upper) = plain_text lower ++ codes " <: " ++ plain_text upper

-- the name of the rule
abbrev pub rule_text : Conclusion → Text
rule_text (typing rule s type) = name_of_type_rule rule
rule_text (subtyping rule lower upper) = name_of_sub_rule rule

-- ---- escaping in each form

-- a character in HTML
abbrev pub html_character : ℕ → Text
html_character c = if c == 38 then codes "&amp;" else (if c == 60 then codes "&lt;" else (if c == 62 then codes "&gt;" else encode_utf8 c))

-- whether LaTeX needs a backslash before the character
abbrev pub is_special : ℕ → Bool
is_special c = list_any (λ d. d == c) (codes "#$%&")

-- a character in LaTeX, some by their code in TeX's typewriter font, where the straight quote and the grave accent differ from ASCII
abbrev pub latex_character : ℕ → Text
latex_character c =
    if c == 92 then codes "\\char92{}" else (if c == 94 then codes "\\char94{}" else (if c == 95 then codes "\\char95{}"
    else (if c == 123 then codes "\\char123{}" else (if c == 125 then codes "\\char125{}" else (if c == 126 then codes "\\char126{}"
    else (if c == 39 then codes "\\char13{}" else (if c == 96 then codes "\\char18{}"
    else (if is_special c then 92 ∷ c ∷ [] else encode_utf8 c))))))))

-- a text escaped for a form
abbrev pub written : Form → Text → Text
written forms.Text text = text
written forms.Html text = flat_map html_character (chars text)
written forms.Latex text = flat_map latex_character (chars text)

-- ---- the parts of a drawing

-- the markup around the texts of steps
unfoldable pub markup : Markup → Text
markup marks.HtmlOpen = codes "<details open><summary>"
markup marks.HtmlRule = codes " <i>"
markup marks.HtmlLine = codes "</i></summary>\n"
markup marks.HtmlEnd = codes "</details>\n"
markup marks.LatexAxiom = codes "\\AxiomC{}\n"
markup marks.LatexPack = codes "\\Five\n"
markup marks.LatexRule = codes "\\RightLabel{\\scriptsize "
markup marks.LatexLine = codes "}\n\\"
markup marks.LatexTerm = codes "InfC{\\texttt{"
markup marks.LatexEnd = codes "}}\n"

-- the opening of a collapsible section
abbrev pub html_head : List ℕ → Role → Conclusion → Text
html_head text role c = markup marks.HtmlOpen ++ written forms.Html (claim_text text role c) ++ markup marks.HtmlRule ++ rule_text c ++ markup marks.HtmlLine

-- What comes before the premises of a step: its line, indented by two blanks per level; in HTML the opening of a collapsible section.
abbrev pub before : Form → List ℕ → (depth : ℕ) → Role → Conclusion → Text
before forms.Text text depth role c = replicate (2 * depth) 32 ++ claim_text text role c ++ codes "  (" ++ rule_text c ++ codes ")\n"
before forms.Html text depth role c = html_head text role c
before forms.Latex text depth role c = []

-- bussproofs draws a step from at most five premises: if there are more, five are combined into one, this many times
abbrev pub packs : ℕ → ℕ
packs n = (n - 2) / 4

-- how many premises remain after that
abbrev pub left : ℕ → ℕ
left n = n - 4 * packs n

-- the prefix of the bussproofs command for a step with this many premises
abbrev pub arity : ℕ → Text
arity n = if n == 2 then codes "Binary" else (if n == 3 then codes "Trinary" else (if n == 4 then codes "Quaternary" else (if n == 5 then codes "Quinary" else codes "Unary")))

-- an empty premise, for a step that has none
abbrev pub axiom_text : ℕ → Text
axiom_text n = if n == 0 then markup marks.LatexAxiom else []

-- the command that combines five premises into one
abbrev pub pack_text : Text
pack_text = markup marks.LatexPack

-- the conclusion of a step with this many premises, with the name of its rule next to the line
abbrev pub latex_claim : List ℕ → ℕ → Role → Conclusion → Text
latex_claim text n role c =
    markup marks.LatexRule ++ rule_text c ++ markup marks.LatexLine ++ arity n ++ markup marks.LatexTerm ++ written forms.Latex (claim_text text role c) ++ markup marks.LatexEnd

-- a step in LaTeX with this many premises
abbrev pub latex_step : List ℕ → ℕ → Role → Conclusion → Text
latex_step text n role c = axiom_text n ++ repeat (packs n) pack_text ++ latex_claim text (left n) role c

-- what comes after the premises of a step, which has this many
abbrev pub behind : Form → List ℕ → ℕ → Role → Conclusion → Text
behind forms.Text text n role c = []
behind forms.Html text n role c = markup marks.HtmlEnd
behind forms.Latex text n role c = latex_step text n role c

-- ---- whole drawings

abbrev pub count : Proofs → ℕ
count no_proofs = 0
count (proof_first p ps) = suc (count ps)

abbrev mutual
  -- a proof at this depth, about a term with this role: each step once, with its premises from left to right
  pub drawn : Form → List ℕ → (depth : ℕ) → Role → Proof → Text
  drawn form text depth role (concludes c ps) = before form text depth role c ++ drawn_each form text (depth + 1) (first_role role c) ps ++ behind form text (count ps) role c

  -- the proofs of premises, the first of which is about a term with this role
  pub drawn_each : Form → List ℕ → (depth : ℕ) → (first : Role) → Proofs → Text
  drawn_each form text depth first no_proofs = []
  drawn_each form text depth first (proof_first p ps) = drawn form text depth first p ++ drawn_each form text depth roles.Other ps

-- ---- whole documents

-- a line with its line ending
abbrev pub line : Text → Text
line text = text ++ 10 ∷ []

-- The beginning of a document: empty for text; for HTML the title and a style; for LaTeX the package, the command that combines five proofs, and a fallback for
-- characters that LaTeX does not know.
unfoldable pub head : Form → Text
head forms.Text = []
head forms.Html =
    line (codes "<!DOCTYPE html>")
    ++ line (codes "<html>")
    ++ line (codes "<head>")
    ++ line (codes "<meta charset=utf-8>")
    ++ line (codes "<title>Derivation</title>")
    ++ line (codes "<style>")
    ++ line (codes "body { font-family: monospace; margin: 2em; }")
    ++ line (codes "details { border-left: 1px solid #bbb; margin-left: 0.5em; padding-left: 1em; }")
    ++ line (codes "summary { cursor: pointer; padding: 0.15em 0 0.15em 1.1em; text-indent: -1.1em; overflow-wrap: anywhere; }")
    ++ line (codes "details:not(:has(> details)) > summary { cursor: default; list-style: none; text-indent: 0; }")
    ++ line (codes "summary i { color: #666; padding-left: 1em; white-space: nowrap; }")
    ++ line (codes "</style>")
    ++ line (codes "</head>")
    ++ line (codes "<body>")
head forms.Latex =
    line (codes "\\documentclass[border=8pt]{standalone}")
    ++ line (codes "\\usepackage{bussproofs}")
    ++ line (codes "\\makeatletter")
    ++ line (codes "% five proofs side by side as one, with the next line over them all")
    ++ line (codes "\\def\\Five{\\prepQuinary")
    ++ line (codes "\\setbox\\myBoxA=\\hbox{\\theHypSeparation}%")
    ++ line (codes "\\global\\lcurScoreEnd=\\rrrcurScoreEnd")
    ++ line (codes "\\global\\advance\\lcurScoreEnd by\\wd\\rrcurBox")
    ++ line (codes "\\global\\advance\\lcurScoreEnd by\\wd\\rcurBox")
    ++ line (codes "\\global\\advance\\lcurScoreEnd by\\wd\\lcurBox")
    ++ line (codes "\\global\\advance\\lcurScoreEnd by\\wd\\ccurBox")
    ++ line (codes "\\global\\advance\\lcurScoreEnd by4\\wd\\myBoxA")
    ++ line (codes "\\global\\setbox\\lcurBox=\\hbox{\\box\\lcurBox\\unhcopy\\myBoxA\\box\\ccurBox")
    ++ line (codes "\\unhcopy\\myBoxA\\box\\rcurBox\\unhcopy\\myBoxA\\box\\rrcurBox\\unhcopy\\myBoxA\\box\\rrrcurBox}%")
    ++ line (codes "\\ignorespaces}")
    ++ line (codes "% the number of a character without a command, and the name of a command without a glyph")
    ++ line (codes "\\def\\UTFviii@undefined@err#1{\\expandafter\\Numbered\\string#1\\relax}")
    ++ line (codes "\\def\\Numbered#1:#2\\relax{[U+\\UTFviii@hexnumber{\\decode@UTFviii#2\\relax}]}")
    ++ line (codes "\\def\\TextSymbolUnavailable#1{[\\string#1]}")
    ++ line (codes "\\def\\Without#1{\\DeclareTextCommand#1{OT1}{\\TextSymbolUnavailable#1}}")
    ++ line (codes "\\Without\\textendash\\Without\\textemdash\\Without\\textquotedblleft\\Without\\l\\Without\\L")
    ++ line (codes "\\makeatother")
    ++ line (codes "\\begin{document}")
    ++ line (codes "\\frenchspacing")

-- the end of a document
unfoldable pub tail : Form → Text
tail forms.Text = []
tail forms.Html = line (codes "</body>") ++ line (codes "</html>")
tail forms.Latex = line (codes "\\DisplayProof") ++ line (codes "\\end{document}")

-- The proof that is drawn has the steps of the derivation.
pub record Draws (form : Form) (text : List ℕ) (derived : Derivation) (drawing : Text) : Type 0 where
  pub proof : Proof
  pub steps : derived.steps ≡ steps_of 0 proof
  pub is : drawing ≡ head form ++ drawn form text 0 roles.Other proof ++ tail form

-- The text has this position, with columns in characters: the offset for it has this very position.
abbrev pub HasPlace : List ℕ → Position → Type 0
HasPlace text place = place ≡ position_of Utf32 text (offset_of Utf32 text place)

-- A derivation of the type of the innermost term around a position of the text; `None` where no type is shown, or the text has no such position.
abbrev pub IsDerivedAt : List ℕ → Position → Option Derivation → Dialect → Type 0
IsDerivedAt text place (Some derived) d = HasPlace text place × IsDerivedIn text (offset_of Utf32 text place) (Some derived) d
IsDerivedAt text place None d = IsDerivedIn text (offset_of Utf32 text place) None d ⊎ (HasPlace text place → ⊥)

-- a drawing of that derivation
pub record IsDrawing (form : Form) (text : List ℕ) (place : Position) (drawing : Text) (d : Dialect) : Type 0 where
  pub derived : Derivation
  pub right : IsDerivedAt text place (Some derived) d
  pub draws : Draws form text derived drawing

-- such a drawing; `None` if there is nothing to draw
abbrev pub IsDrawnAt : Form → List ℕ → Position → Option Text → Dialect → Type 0
IsDrawnAt form text place (Some drawing) d = IsDrawing form text place drawing d
IsDrawnAt form text place None d = IsDerivedAt text place None d
