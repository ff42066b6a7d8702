-- Tokens: kinds, and a token at its place.
use Rattle.std.specs.Prelude.{ℕ, ◌≤◌, List, [], ◌∷◌}

-- The kinds of tokens: names and literals, words, marks, operators by their level, and what is no part of the language.
pub data Kind : Type 0 where
  lower : Kind  -- an identifier that begins with a lower-case letter or `_`
  upper : Kind  -- an identifier that begins with an upper-case letter
  qualifier : Kind  -- an upper-case identifier and its point
  ty_var : Kind  -- `'` and an identifier
  op_name : Kind  -- an operator in parentheses
  unit : Kind  -- `()`
  nil : Kind  -- `[]`
  module_type : Kind  -- `module type`
  int : Kind  -- an integer numeral
  float : Kind  -- a numeral with a point or an exponent
  char : Kind  -- a character literal
  str : Kind  -- a string, or a quoted string
  and_word : Kind
  as_word : Kind
  assert_word : Kind
  begin_word : Kind
  do_word : Kind
  done_word : Kind
  downto_word : Kind
  else_word : Kind
  end_word : Kind
  exception_word : Kind
  false_word : Kind
  for_word : Kind
  fun_word : Kind
  function_word : Kind
  functor_word : Kind
  if_word : Kind
  in_word : Kind
  include_word : Kind
  let_word : Kind
  match_word : Kind
  module_word : Kind
  mutable_word : Kind
  of_word : Kind
  open_word : Kind
  rec_word : Kind
  sig_word : Kind
  struct_word : Kind
  then_word : Kind
  to_word : Kind
  true_word : Kind
  try_word : Kind
  type_word : Kind
  val_word : Kind
  when_word : Kind
  while_word : Kind
  with_word : Kind
  left_paren : Kind  -- `(`
  right_paren : Kind  -- `)`
  left_bracket : Kind  -- `[`
  right_bracket : Kind  -- `]`
  left_brace : Kind  -- `{`
  right_brace : Kind  -- `}`
  comma : Kind  -- `,`
  semi : Kind  -- `;`
  semi_semi : Kind  -- `;;`
  colon : Kind  -- `:`
  dot : Kind  -- `.`
  underscore : Kind  -- `_`
  bar : Kind  -- `|`
  arrow : Kind  -- `->`
  left_arrow : Kind  -- `<-`
  colon_colon : Kind  -- `::`
  colon_equal : Kind  -- `:=`
  op14 : Kind  -- `**`, `lsl` and their level
  op13 : Kind  -- `*`, `mod` and their level
  op12 : Kind  -- `+`, `-` and their level
  op10 : Kind  -- `@`, `^` and their level
  op9 : Kind  -- `=`, `<` and their level
  op8 : Kind  -- `&&`
  op7 : Kind  -- `||`
  prefix : Kind  -- `!`, `~-` and their like
  outside : Kind  -- a word or sign that is outside of the language
  junk : Kind  -- what begins no token, or an unclosed comment or string

-- a token: its kind, where it starts and ends in the text, the bytes between the last line feed before it and it, and its name, which is its spelling
pub record Tok : Type 0 where
  pub kind : Kind
  pub start : ℕ
  pub end : ℕ
  pub col : ℕ
  pub name : List ℕ

-- each of these tokens stands within so many bytes
abbrev pub AllWithin : ℕ → List Tok → Type 0
AllWithin n [] = Unit {0}
AllWithin n (t ∷ ts) = (t.start ≤ n) × (t.end ≤ n) × AllWithin n ts
