-- Lines and texts, and what they say, by the definitions.
-- Assumes nothing.
use mathlib.Core.Path.{◌≡◌, refl}
use mathlib.Core.List.{[], ◌∷◌}
use Rattle.wording.specs.Words.{span, uncommented, begun, first, after, same}
use Rattle.wording.specs.Numbers.{number_from, number_of, only_in}
use Rattle.curve.specs.declared.Curve.TheVariants.{FrontLoaded, Delayed}
use Rattle.tree.specs.Trees.{empty_tree}
use Rattle.print.specs.declared.Wrong.TheVariants.{TreeFirst, NextClass}
use Rattle.std.specs.Prelude.{None, Some, Ok, Err}
use Rattle.treetext.specs.declared.Entry.TheVariants.{Head, ClassOf}
use Rattle.treetext.specs.declared.EntryError.TheVariants.{TooLarge, NotAClass}
use Rattle.treetext.specs.Entries.{none_in, straight_in, front_loaded_in, delayed_in, curve_in, labelled, class_of, class_in, head_in, entry_in, entry_of}
use Rattle.treetext.specs.Texts.{lines_of, is_done, with_line, with_lines, tree_in}

-- `class 1 parent 0 share 16384 front-loaded 32768 2000 16384 # x`
pub says_class : entry_of (99 ∷ 108 ∷ 97 ∷ 115 ∷ 115 ∷ 32 ∷ 49 ∷ 32 ∷ 112 ∷ 97 ∷ 114 ∷ 101 ∷ 110 ∷ 116 ∷ 32 ∷ 48 ∷ 32 ∷ 115 ∷ 104 ∷ 97 ∷ 114 ∷ 101 ∷ 32 ∷ 49 ∷ 54 ∷ 51 ∷ 56 ∷ 52 ∷ 32 ∷ 102 ∷ 114 ∷ 111 ∷ 110 ∷ 116 ∷ 45 ∷ 108 ∷ 111 ∷ 97 ∷ 100 ∷ 101 ∷ 100 ∷ 32 ∷ 51 ∷ 50 ∷ 55 ∷ 54 ∷ 56 ∷ 32 ∷ 50 ∷ 48 ∷ 48 ∷ 48 ∷ 32 ∷ 49 ∷ 54 ∷ 51 ∷ 56 ∷ 52 ∷ 32 ∷ 35 ∷ 32 ∷ 120 ∷ []) ≡ Ok (Some (ClassOf 1 (record { parent = 0; share = 16384; curve = FrontLoaded 32768 2000 16384 })))
unfolding entry_of entry_in head_in class_in class_of labelled curve_in none_in straight_in front_loaded_in delayed_in only_in uncommented begun first after span same number_from number_of
says_class = refl

-- `class 2 parent 0 share 3 delayed 5 6`
pub says_delayed : entry_of (99 ∷ 108 ∷ 97 ∷ 115 ∷ 115 ∷ 32 ∷ 50 ∷ 32 ∷ 112 ∷ 97 ∷ 114 ∷ 101 ∷ 110 ∷ 116 ∷ 32 ∷ 48 ∷ 32 ∷ 115 ∷ 104 ∷ 97 ∷ 114 ∷ 101 ∷ 32 ∷ 51 ∷ 32 ∷ 100 ∷ 101 ∷ 108 ∷ 97 ∷ 121 ∷ 101 ∷ 100 ∷ 32 ∷ 53 ∷ 32 ∷ 54 ∷ []) ≡ Ok (Some (ClassOf 2 (record { parent = 0; share = 3; curve = Delayed 5 6 })))
unfolding entry_of entry_in head_in class_in class_of labelled curve_in none_in straight_in front_loaded_in delayed_in only_in uncommented begun first after span same number_from number_of
says_delayed = refl

-- a space, `tree` and a carriage return
pub says_head : entry_of (32 ∷ 116 ∷ 114 ∷ 101 ∷ 101 ∷ 13 ∷ []) ≡ Ok (Some Head)
unfolding entry_of entry_in head_in class_in class_of labelled curve_in none_in straight_in front_loaded_in delayed_in only_in uncommented begun first after span same number_from number_of
says_head = refl

-- `tree 1`
pub says_head_more : entry_of (116 ∷ 114 ∷ 101 ∷ 101 ∷ 32 ∷ 49 ∷ []) ≡ Err NotAClass
unfolding entry_of entry_in head_in class_in class_of labelled curve_in none_in straight_in front_loaded_in delayed_in only_in uncommented begun first after span same number_from number_of
says_head_more = refl

-- `class 0 parent 0 share 1 none 2`
pub says_more : entry_of (99 ∷ 108 ∷ 97 ∷ 115 ∷ 115 ∷ 32 ∷ 48 ∷ 32 ∷ 112 ∷ 97 ∷ 114 ∷ 101 ∷ 110 ∷ 116 ∷ 32 ∷ 48 ∷ 32 ∷ 115 ∷ 104 ∷ 97 ∷ 114 ∷ 101 ∷ 32 ∷ 49 ∷ 32 ∷ 110 ∷ 111 ∷ 110 ∷ 101 ∷ 32 ∷ 50 ∷ []) ≡ Err NotAClass
unfolding entry_of entry_in head_in class_in class_of labelled curve_in none_in straight_in front_loaded_in delayed_in only_in uncommented begun first after span same number_from number_of
says_more = refl

-- `class 0 parent 0 share 1 delayed 5`
pub says_missing : entry_of (99 ∷ 108 ∷ 97 ∷ 115 ∷ 115 ∷ 32 ∷ 48 ∷ 32 ∷ 112 ∷ 97 ∷ 114 ∷ 101 ∷ 110 ∷ 116 ∷ 32 ∷ 48 ∷ 32 ∷ 115 ∷ 104 ∷ 97 ∷ 114 ∷ 101 ∷ 32 ∷ 49 ∷ 32 ∷ 100 ∷ 101 ∷ 108 ∷ 97 ∷ 121 ∷ 101 ∷ 100 ∷ 32 ∷ 53 ∷ []) ≡ Err NotAClass
unfolding entry_of entry_in head_in class_in class_of labelled curve_in none_in straight_in front_loaded_in delayed_in only_in uncommented begun first after span same number_from number_of
says_missing = refl

-- `class 0 parent 0 share 4294967296 none`
pub says_past : entry_of (99 ∷ 108 ∷ 97 ∷ 115 ∷ 115 ∷ 32 ∷ 48 ∷ 32 ∷ 112 ∷ 97 ∷ 114 ∷ 101 ∷ 110 ∷ 116 ∷ 32 ∷ 48 ∷ 32 ∷ 115 ∷ 104 ∷ 97 ∷ 114 ∷ 101 ∷ 32 ∷ 52 ∷ 50 ∷ 57 ∷ 52 ∷ 57 ∷ 54 ∷ 55 ∷ 50 ∷ 57 ∷ 54 ∷ 32 ∷ 110 ∷ 111 ∷ 110 ∷ 101 ∷ []) ≡ Err TooLarge
unfolding entry_of entry_in head_in class_in class_of labelled curve_in none_in straight_in front_loaded_in delayed_in only_in uncommented begun first after span same number_from number_of
says_past = refl

-- `class 4294967296 parent x share 1 none`: the form is judged first
pub says_past_beside : entry_of (99 ∷ 108 ∷ 97 ∷ 115 ∷ 115 ∷ 32 ∷ 52 ∷ 50 ∷ 57 ∷ 52 ∷ 57 ∷ 54 ∷ 55 ∷ 50 ∷ 57 ∷ 54 ∷ 32 ∷ 112 ∷ 97 ∷ 114 ∷ 101 ∷ 110 ∷ 116 ∷ 32 ∷ 120 ∷ 32 ∷ 115 ∷ 104 ∷ 97 ∷ 114 ∷ 101 ∷ 32 ∷ 49 ∷ 32 ∷ 110 ∷ 111 ∷ 110 ∷ 101 ∷ []) ≡ Err NotAClass
unfolding entry_of entry_in head_in class_in class_of labelled curve_in none_in straight_in front_loaded_in delayed_in only_in uncommented begun first after span same number_from number_of
says_past_beside = refl

-- `# tree`
pub says_comment : entry_of (35 ∷ 32 ∷ 116 ∷ 114 ∷ 101 ∷ 101 ∷ []) ≡ Ok None
unfolding entry_of entry_in head_in class_in class_of labelled curve_in none_in straight_in front_loaded_in delayed_in only_in uncommented begun first after span same number_from number_of
says_comment = refl

-- `tree`, a blank line, and class 1 where class 0 comes next
pub names_next : (tree_in (116 ∷ 114 ∷ 101 ∷ 101 ∷ 10 ∷ 10 ∷ 99 ∷ 108 ∷ 97 ∷ 115 ∷ 115 ∷ 32 ∷ 49 ∷ 32 ∷ 112 ∷ 97 ∷ 114 ∷ 101 ∷ 110 ∷ 116 ∷ 32 ∷ 48 ∷ 32 ∷ 115 ∷ 104 ∷ 97 ∷ 114 ∷ 101 ∷ 32 ∷ 49 ∷ 32 ∷ 110 ∷ 111 ∷ 110 ∷ 101 ∷ 10 ∷ [])).fault ≡ Some (record { line = 3; wrong = NextClass 0 })
unfolding empty_tree tree_in with_lines with_line is_done lines_of entry_of entry_in head_in class_in class_of labelled curve_in none_in straight_in front_loaded_in delayed_in only_in uncommented begun first after span same number_from number_of
names_next = refl

-- a class before `tree`, on a line without its end
pub names_first : (tree_in (99 ∷ 108 ∷ 97 ∷ 115 ∷ 115 ∷ 32 ∷ 48 ∷ 32 ∷ 112 ∷ 97 ∷ 114 ∷ 101 ∷ 110 ∷ 116 ∷ 32 ∷ 48 ∷ 32 ∷ 115 ∷ 104 ∷ 97 ∷ 114 ∷ 101 ∷ 32 ∷ 49 ∷ 32 ∷ 110 ∷ 111 ∷ 110 ∷ 101 ∷ [])).fault ≡ Some (record { line = 1; wrong = TreeFirst })
unfolding empty_tree tree_in with_lines with_line is_done lines_of entry_of entry_in head_in class_in class_of labelled curve_in none_in straight_in front_loaded_in delayed_in only_in uncommented begun first after span same number_from number_of
names_first = refl
