use Rattle.std.proofs.Common.{rules, ◌≡◌, ◌∷◌, ◌-◌, true, length, take, drop, map}
use Rattle.plain_model.specs.Plain as plain
use Rattle.syntax_tree.specs.View.{tok_of}
use Rattle.plain_typing.specs.View.{views}
use Rattle.plain_typing.proofs.Trees.{first_four, trees_step}
use Rattle.plain_typing.proofs.build.trees_over.Goals as goal

pub loop-left-preserved : goal.loop-left-preserved
loop-left-preserved c =
    let word = c.word-item.result in
    let name = c.name-item.result in
    let sign = c.sign-item.result in
    let value = c.value-item.result in
    let left = c.loop-left.left.now in
    let four : left ≡ word ∷ name ∷ sign ∷ value ∷ take (length left - 4) (drop 4 left)
    = first_four left word name sign value c.in-len4-up.len_at_least c.word-item.is c.name-item.is c.sign-item.is c.value-item.is in
    let item : plain.is_item (tok_of word) (tok_of name) (tok_of sign) (tok_of value) ≡ true = rw (← c.is_item.ensures) (search rules) in
    let before = rw four at c.loop-left.invariant in
    rw (c.in_ok-add_item.ensures, c.in_ok-item.ensures, trees_step (views c.loop-left.items.items) (tok_of word) (tok_of name) (tok_of sign) (tok_of value) (map tok_of (take (length left - 4) (drop 4 left))) item) before
