use Rattle.std.proofs.Common.{◌≡◌, drop}
use Rattle.lam_syntax.specs.Views.{fields_of}
use Rattle.lam_scope.specs.inner.OwnWords.{words_in_fields, seek_on}
use Rattle.lam_scope.proofs.own_words.+words.Given as goal

abbrev pub invariant-find_in_fields-loop-i : goal.invariant-find_in_fields-loop-i
invariant-find_in_fields-loop-i l =
    seek_on l.target l.after (words_in_fields (fields_of (drop l.i l.fields))) ≡ seek_on l.target l.fn.reached (words_in_fields (fields_of l.fields))
