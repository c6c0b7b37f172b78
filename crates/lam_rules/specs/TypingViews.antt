-- What a context of types and a `TypeProof` represent.
use Rattle.std.specs.Prelude.{List, [], ◌∷◌, ◌++◌, Option}
use Rattle.std.specs.Option.{option_map}
use Rattle.lam_rules.specs.TypeViews.{typ_of}
use Rattle.lam_rules.specs.TermViews.{written_of, lent_of}
use Rattle.lam_rules.specs.SubViews.{sub_tree_of}
use Rattle.lam_rules.specs.Types.{Typ}
use Rattle.lam_rules.specs.Typing.{Context, TypingTree, typing_step, TypingTrees, no_typings, typing_first}
use Rattle.lam_rules.specs.declared.types.Ty.{Ty}
use Rattle.lam_rules.specs.declared.typing.TypeProof.{TypeProof, TypeProof-F, fold-TypeProof, out-TypeProof}
use Rattle.lam_rules.specs.declared.typing.Entries.{Entries, fold-Entries}
use Rattle.lam_rules.specs.declared.typing.Entries.TheOpen.{Entries-F}

-- the context of a list of entries that begins with the outermost binder
abbrev pub context_of : List (Option Ty) → Context
context_of [] = []
context_of (entry ∷ inner) = context_of inner ++ written_of entry ∷ []

-- one level: the context of the given entries, or with one more entry inside
abbrev pub entries_step : Entries-F Context → Context
entries_step (Entries-F.Given outer) = context_of outer.now
entries_step (Entries-F.Under entry rest) = lent_of entry ∷ rest.now

-- the context of the given entries and the binders added since
unfoldable pub entries_of : Entries → Context
entries_of = fold-Entries Context entries_step

-- a list of trees as premises
abbrev pub typings_made : List TypingTree → TypingTrees
typings_made [] = no_typings
typings_made (p ∷ ps) = typing_first p (typings_made ps)

-- one node, whose premises are already trees
abbrev pub typing_tree_step : TypeProof-F TypingTree → TypingTree
typing_tree_step p = typing_step p.rule (typ_of p.ty) (typings_made p.typing.items) (option_map (λ q. sub_tree_of q.value) p.sub)

-- the tree of a `TypeProof`
unfoldable pub typing_tree_of : TypeProof → TypingTree
typing_tree_of = fold-TypeProof TypingTree typing_tree_step

-- the trees of several `TypeProof`s
abbrev pub typings_of : List TypeProof → TypingTrees
typings_of [] = no_typings
typings_of (p ∷ ps) = typing_first (typing_tree_of p) (typings_of ps)

-- the types that several `TypeProof`s conclude
abbrev pub types_concluded : List TypeProof → List Typ
types_concluded [] = []
types_concluded (p ∷ ps) = typ_of (out-TypeProof p).ty ∷ types_concluded ps
