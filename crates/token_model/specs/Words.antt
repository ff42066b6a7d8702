-- The kinds of names and of operators, by their spelling. (OCaml manual, "Lexical conventions": Keywords, Prefix and infix symbols.)
use Rattle.std.specs.Prelude.{ℕ, ◌==◌, ◌&&◌, ◌||◌, Bool, List, [], ◌∷◌, if◌then◌else◌, get_or, length, codes, nat_lt}
use Rattle.std.specs.Str.{bytes_eq}
use Rattle.token_model.specs.Kinds.{Kind, lower, underscore, and_word, as_word, assert_word, begin_word, do_word, done_word, downto_word, else_word, end_word, exception_word, false_word, for_word, fun_word, function_word, functor_word, if_word, in_word, include_word, let_word, match_word, module_word, mutable_word, of_word, open_word, rec_word, sig_word, struct_word, then_word, to_word, true_word, try_word, type_word, val_word, when_word, while_word, with_word, bar, arrow, left_arrow, op14, op13, op12, op10, op9, op8, op7, prefix, outside}

-- words that no program of the language has
abbrev pub is_outside_word : List ℕ → Bool
is_outside_word word = bytes_eq word (codes "class") || bytes_eq word (codes "constraint") || bytes_eq word (codes "external") || bytes_eq word (codes "inherit") || bytes_eq word (codes "initializer") || bytes_eq word (codes "lazy") || bytes_eq word (codes "method") || bytes_eq word (codes "new") || bytes_eq word (codes "nonrec") || bytes_eq word (codes "object") || bytes_eq word (codes "or") || bytes_eq word (codes "private") || bytes_eq word (codes "virtual")

-- the words that are shift operators, which bind as `**` does
abbrev pub is_op14_word : List ℕ → Bool
is_op14_word word = bytes_eq word (codes "lsl") || bytes_eq word (codes "lsr") || bytes_eq word (codes "asr")

-- the words that are operators and bind as `*` does
abbrev pub is_op13_word : List ℕ → Bool
is_op13_word word = bytes_eq word (codes "mod") || bytes_eq word (codes "land") || bytes_eq word (codes "lor") || bytes_eq word (codes "lxor")

-- the kind of a name that isn't a keyword: an operator, a word outside of the language, or else an identifier
unfoldable pub other_word_kind : List ℕ → Kind
other_word_kind word = if bytes_eq word (codes "_") then underscore else (if is_op14_word word then op14 else (if is_op13_word word then op13 else (if is_outside_word word then outside else lower)))

-- keywords from `to` to `with`, and the kinds of the words behind them
unfoldable pub last_word_kind : List ℕ → Kind
last_word_kind word = if bytes_eq word (codes "to") then to_word else (if bytes_eq word (codes "true") then true_word else (if bytes_eq word (codes "try") then try_word else (if bytes_eq word (codes "type") then type_word else (if bytes_eq word (codes "val") then val_word else (if bytes_eq word (codes "when") then when_word else (if bytes_eq word (codes "while") then while_word else (if bytes_eq word (codes "with") then with_word else (other_word_kind word))))))))

-- keywords from `match` to `then`, and the kinds of the words behind them
unfoldable pub late_word_kind : List ℕ → Kind
late_word_kind word = if bytes_eq word (codes "match") then match_word else (if bytes_eq word (codes "module") then module_word else (if bytes_eq word (codes "mutable") then mutable_word else (if bytes_eq word (codes "of") then of_word else (if bytes_eq word (codes "open") then open_word else (if bytes_eq word (codes "rec") then rec_word else (if bytes_eq word (codes "sig") then sig_word else (if bytes_eq word (codes "struct") then struct_word else (if bytes_eq word (codes "then") then then_word else (last_word_kind word)))))))))

-- keywords from `exception` to `let`, and the kinds of the words behind them
unfoldable pub middle_word_kind : List ℕ → Kind
middle_word_kind word = if bytes_eq word (codes "exception") then exception_word else (if bytes_eq word (codes "false") then false_word else (if bytes_eq word (codes "for") then for_word else (if bytes_eq word (codes "fun") then fun_word else (if bytes_eq word (codes "function") then function_word else (if bytes_eq word (codes "functor") then functor_word else (if bytes_eq word (codes "if") then if_word else (if bytes_eq word (codes "in") then in_word else (if bytes_eq word (codes "include") then include_word else (if bytes_eq word (codes "let") then let_word else (late_word_kind word))))))))))

-- keywords from `and` to `end`, and the kinds of the words behind them
unfoldable pub early_word_kind : List ℕ → Kind
early_word_kind word = if bytes_eq word (codes "and") then and_word else (if bytes_eq word (codes "as") then as_word else (if bytes_eq word (codes "assert") then assert_word else (if bytes_eq word (codes "begin") then begin_word else (if bytes_eq word (codes "do") then do_word else (if bytes_eq word (codes "done") then done_word else (if bytes_eq word (codes "downto") then downto_word else (if bytes_eq word (codes "else") then else_word else (if bytes_eq word (codes "end") then end_word else (middle_word_kind word)))))))))

-- the kind of an identifier that begins with a lower-case letter or `_`
unfoldable pub word_kind : List ℕ → Kind
word_kind word = early_word_kind word

-- the kind of an operator by the signs that it begins with
abbrev pub first_sign_kind : ℕ → ℕ → Kind
first_sign_kind b c = if b == 42 && c == 42 then op14 else (if b == 42 || b == 47 || b == 37 then op13 else (if b == 43 || b == 45 then op12 else (if b == 64 || b == 94 then op10 else (if b == 33 || b == 126 || b == 63 then prefix else op9))))

-- the kind of signs that may be an operator
unfoldable pub sign_kind : List ℕ → Kind
sign_kind word = if bytes_eq word (codes "->") then arrow else (if bytes_eq word (codes "<-") then left_arrow else (if bytes_eq word (codes "|") then bar else (if bytes_eq word (codes "||") then op7 else (if bytes_eq word (codes "&") then outside else (if bytes_eq word (codes "&&") then op8 else (if bytes_eq word (codes "!=") then op9 else (if bytes_eq word (codes "~") then outside else (if bytes_eq word (codes "?") then outside else (first_sign_kind (get_or word 0 0) (get_or word 1 0))))))))))
