use Rattle.plain_model.specs.Plain as plain
use Rattle.syntax_tree.specs.Names.{kind_of}
use Rattle.plain_typing.proofs.Words.{literal_type_there, literal_type_alone}
use Rattle.plain_typing.proofs.kinds.literal_type.Goals as goal

pub returns-in-Int : goal.returns-in-Int
unfolding plain.literal_type kind_of
returns-in-Int c = literal_type_there _ _ c.in-Int.is

pub returns-in-Str : goal.returns-in-Str
unfolding plain.literal_type kind_of
returns-in-Str c = literal_type_there _ _ c.in-Str.is

pub returns-in-True : goal.returns-in-True
unfolding plain.literal_type kind_of
returns-in-True c = literal_type_there _ _ c.in-True.is

pub returns-in-False : goal.returns-in-False
unfolding plain.literal_type kind_of
returns-in-False c = literal_type_there _ _ c.in-False.is

pub returns-in_default : goal.returns-in_default
returns-in_default c = literal_type_alone _ c.in_default.not-Int c.in_default.not-Str c.in_default.not-True c.in_default.not-False
