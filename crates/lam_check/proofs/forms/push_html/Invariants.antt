use Rattle.std.proofs.Common.{◌≡◌, ◌++◌, length, drop, flat_map, string_bytes}
use Rattle.std.specs.Str.{chars}
use Rattle.lam_check.specs.Drawings.{html_character}
use Rattle.lam_check.proofs.forms.push_html.Given as goal

-- what is written, and the characters that are left, are all
abbrev pub invariant-loop-c : goal.invariant-loop-c
invariant-loop-c l = string_bytes l.out ++ flat_map html_character (drop (length l.yielded) (chars l.text)) ≡ string_bytes l.initial.out ++ flat_map html_character (chars l.text)
