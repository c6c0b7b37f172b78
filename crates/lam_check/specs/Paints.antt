-- Highlighting of printed text.
use Rattle.std.specs.Prelude.{[], ◌∷◌, ◌++◌, codes}
use Rattle.lam_rules.specs.Texts.{Text}
use Rattle.lam_check.specs.declared.paint.Paint.{Paint}
use Rattle.lam_check.specs.declared.paint.Paint.TheVariants.{Plain, Colours}

-- the sequence that starts highlighted text: bold red, if colours are on
abbrev pub brush : Paint → Text
brush Plain = []
brush Colours = 27 ∷ codes "[1;31m"

-- the sequence that ends it
abbrev pub rest : Paint → Text
rest Plain = []
rest Colours = 27 ∷ codes "[0m"

-- highlighted text
abbrev pub painted : Paint → Text → Text
painted paint text = brush paint ++ text ++ rest paint
