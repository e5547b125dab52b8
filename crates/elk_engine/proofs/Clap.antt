-- What clap makes of the words.
use Rattle.std.proofs.Common.{◌≡◌, ◌⊎◌, inl, inr, ℕ, ◌||◌, Bool, true, false, List, [], ◌∷◌, None, Some, refl, codes, fold, sym, ◌∙◌, ap, subst, slice_get}
use Rattle.std.specs.Prelude.{Result, Ok, Err, IfOk, IfErr, map, Option, option_map, ⊤, if◌then◌else◌, ◌==◌, is_some}
use Rattle.std.specs.Str.{bytes_eq, chars}
use Rattle.clap.specs.Words.{App, Row, Rule, Text, Kinds, FailsBy, HasMatchesOf, IsAmong, found_of, kind_of, rows_of, same_text, new_app, new_rule, with_rule, fault_of, is_simple_and_free, matches_of, first_of}
use Rattle.clap.specs.Kinds.{or_else}
use Rattle.clap.specs.Simple.{Shape, built, on_top, entered}
use Rattle.clap.specs.Lexer.{long_of, short_of}
use Rattle.clap.specs.Values.{reading_of}
use Rattle.clap.specs.declared.parser.matches.ValueSource.TheVariants.{CommandLine}
use Rattle.clap.specs.ValueTests.{accepts}
use Rattle.clap.specs.Walk.{value, after_step, word_met, arg_by_long, arg_by_short, Walk, Held, idle, walk, walked, bundle_met, nothing_held, walk_from, finished}
use Rattle.clap.specs.Faults.{flags_fault, long_fault, short_fault, bundle_fault, walk_fault, turn_fault, word_fault, settle_fault, defaults_fault, check_fault, level_fault, entered_fault}
use Rattle.clap.specs.declared.builder.value_parser.ValueParser.{ValueParser}
use Rattle.clap.proofs.OnLiterals.{clap_on_literals}
use Rattle.clap.specs.declared.error.kind.ErrorKind.TheVariants.{DisplayHelp, OutOfMemory}
use Rattle.clap.specs.declared.error.Error.{Error}
use Rattle.clap.specs.declared.parser.matches.ArgMatches.{ArgMatches}
use Rattle.std.specs.Borrow.{Bor}
use Rattle.std.specs.List.{list_any}
use Rattle.std.proofs.lemmas.Bool.{cases_Bool, eqb-true}
use Rattle.std.proofs.lemmas.Slice.Eq.{bytes_eq-Decides}
use Rattle.elk_engine.specs.declared.words.Command.{Command}
use Rattle.elk_engine.specs.declared.words.Command.TheVariants.{Layout, Check, Batch, Demo}
use Rattle.elk_engine.specs.Words.{asked, chosen_of, command_of_values, without_dashes}
use Rattle.elk_engine.proofs.Numbers.{dashed_none}

is_same : (a b : List ℕ) → bytes_eq a b ≡ true → a ≡ b
is_same a b e = (bytes_eq-Decides a b).0 e

unfoldable pub IsFaulty : Kinds → Type 0
IsFaulty [] = ⊥
IsFaulty (k ∷ ks) = ⊤

either_none : (b : Bool) → (if b then option_map Demo None else None) ≡ None
either_none true = refl
either_none false = refl

-- the command of what was found
abbrev pub chosen : List Row → Option Command
chosen rows = chosen_of (first_of (codes "command") rows) (first_of (codes "n") rows)

-- the values that are left to read, after `--` or before it
abbrev left_values : Bool → List Text → List Text
left_values true words = words
left_values false words = without_dashes words

dashes_left : (word : Text) (words : List Text) → bytes_eq word (codes "--") ≡ true → without_dashes (word ∷ words) ≡ words
dashes_left word words e = rw e refl

value_left : (word : Text) (words : List Text) → bytes_eq word (codes "--") ≡ false → without_dashes (word ∷ words) ≡ word ∷ without_dashes words
value_left word words e = rw e refl

abbrev pub is_named : Text → Bool
is_named c = bytes_eq (codes "layout") c || (bytes_eq (codes "check") c || (bytes_eq (codes "batch") c || (bytes_eq (codes "demo") c || false)))

named_none : (a b l d : Bool) → (a || (b || (l || (d || false)))) ≡ false → (if a then Some Layout else (if b then Some Check else (if l then Some Batch else None))) ≡ None
named_none true b l d e = cc
named_none false true l d e = cc
named_none false false true d e = cc
named_none false false false d e = refl

numbered_none : (a b l d : Bool) (o : Option Command) → (a || (b || (l || (d || false)))) ≡ false → (if d then o else None) ≡ None
numbered_none true b l d o e = cc
numbered_none false true l d o e = cc
numbered_none false false true d o e = cc
numbered_none false false false true o e = cc
numbered_none false false false false o e = refl

-- a first value that is no command
unnamed : (c : Text) (rest : List Text) → is_named c ≡ false → command_of_values (c ∷ rest) ≡ None
unnamed c [] e = named_none (bytes_eq (codes "layout") c) (bytes_eq (codes "check") c) (bytes_eq (codes "batch") c) (bytes_eq (codes "demo") c) e
unnamed c (n ∷ []) e = numbered_none (bytes_eq (codes "layout") c) (bytes_eq (codes "check") c) (bytes_eq (codes "batch") c) (bytes_eq (codes "demo") c) _ e
unnamed c (n ∷ m ∷ rest) e = refl

dashed_unnamed : (rest : Text) → is_named (45 ∷ rest) ≡ false
dashed_unnamed rest = refl

-- a second value that begins with a dash
dashed_second : (c rest : Text) (words : List Text) → command_of_values (c ∷ (45 ∷ rest) ∷ words) ≡ None
dashed_second c rest [] = rw (dashed_none rest) (either_none (bytes_eq (codes "demo") c))
dashed_second c rest (m ∷ words) = refl

-- the rule of the number
abbrev pub number_rule : Rule
number_rule = new_rule (codes "n")

module _ (q : ValueParser) where
  abbrev pub command_rule : Rule
  command_rule = record (new_rule (codes "command")) { parser = Some q; required = true }

  abbrev pub elk : App
  elk = with_rule (with_rule (on_top (λ s. record s { no_binary_name = true }) (new_app (codes "elk"))) command_rule) number_rule

  abbrev shape : Shape
  shape = (built elk).top

  pub is_plain : is_simple_and_free elk ≡ true
  is_plain = refl

  -- what is found of the command
  abbrev found_row : Text → Row
  found_row c = record { id = codes "command"; values = c ∷ []; count = None; source = Some CommandLine; reading = reading_of q }

  -- no value yet
  abbrev none_yet : Bool → Walk
  none_yet t = record { held = nothing_held; waiting = idle; position = 1; is_trailing = t; stopped = None }

  -- the command's word is held
  abbrev one_held : Bool → Text → Walk
  one_held t c = record { held = record { rows = []; pending = Some (codes "command", c ∷ []); skip = 0 }; waiting = idle; position = 2; is_trailing = t; stopped = None }

  -- the command's word is found, and the number's is held
  abbrev two_held : Bool → Text → Text → Walk
  two_held t c n = record { held = record { rows = found_row c ∷ []; pending = Some (codes "n", n ∷ []); skip = 0 }; waiting = idle; position = 3; is_trailing = t; stopped = None }

  abbrev step : Walk → Text → Walk
  step = walked shape.rules []

  abbrev fault_at : Walk → Text → Kinds
  fault_at = turn_fault shape []

  abbrev end_fault : Held → Kinds
  end_fault h = or_else (settle_fault shape.rules shape.args_override_self h)
      (or_else (defaults_fault (Rattle.clap.specs.Walk.settled shape.rules h).rows shape.rules)
      (check_fault shape (finished shape.rules h) false))

  -- what is left to fail from here on
  abbrev tail_fault : Walk → List Text → Kinds
  tail_fault w words = or_else (walk_fault shape [] w words) (end_fault (fold step w words).held)

  level : (words : List Text) (s : Option (Text × List Text)) → level_fault shape [] nothing_held words (is_some (entered (built elk) s)) (entered_fault (built elk) s) ≡ tail_fault (walk_from nothing_held) words
  level words None = refl
  level words (Some p) = refl

  pub whole : (words : List Text) → fault_of elk words ≡ tail_fault (none_yet false) words
  whole words = level words (walk shape.rules [] nothing_held words).stopped

  -- steps
  first_trailing : (word : Text) → (step (none_yet true) word ≡ one_held true word) × (fault_at (none_yet true) word ≡ [])
  unfolding walked
  first_trailing word = (refl, refl)

  second_trailing : (c word : Text) → step (one_held true c) word ≡ two_held true c word
  unfolding walked
  second_trailing c word = refl

  second_passes : (c word : Text) → accepts false q c ≡ true → fault_at (one_held true c) word ≡ []
  unfolding clap_on_literals
  second_passes c word is = rw is refl

  second_fails : (c word : Text) → accepts false q c ≡ false → IsFaulty (fault_at (one_held true c) word)
  unfolding clap_on_literals IsFaulty
  second_fails c word is = rw is tt

  third_trailing : (c n word : Text) → IsFaulty (fault_at (two_held true c n) word)
  unfolding walked IsFaulty
  third_trailing c n word = tt

  -- `--`
  module _ (word : Text) (e : bytes_eq word (codes "--") ≡ true) where
    first_dashes : (step (none_yet false) word ≡ none_yet true) × (fault_at (none_yet false) word ≡ [])
    unfolding walked
    first_dashes = (rw e refl, rw e refl)

    second_dashes : (c : Text) → (step (one_held false c) word ≡ one_held true c) × (fault_at (one_held false c) word ≡ [])
    unfolding walked
    second_dashes c = (rw e refl, rw e refl)

    third_dashes : (c n : Text) → (step (two_held false c n) word ≡ two_held true c n) × (fault_at (two_held false c n) word ≡ [])
    unfolding walked
    third_dashes c n = (rw e refl, rw e refl)

  -- the end
  none_end : (t : Bool) → IsFaulty (end_fault (none_yet t).held)
  unfolding clap_on_literals IsFaulty
  none_end t = tt

  one_end : (t : Bool) (c : Text) → accepts false q c ≡ true → end_fault (one_held t c).held ≡ []
  unfolding clap_on_literals
  one_end t c is = rw is refl

  one_end_refused : (t : Bool) (c : Text) → accepts false q c ≡ false → IsFaulty (end_fault (one_held t c).held)
  unfolding clap_on_literals IsFaulty
  one_end_refused t c is = rw is tt

  two_end : (t : Bool) (c n : Text) → end_fault (two_held t c n).held ≡ []
  unfolding clap_on_literals
  two_end t c n = refl

  -- ---- flags

  not_faulty : IsFaulty [] → ⊥
  unfolding IsFaulty
  not_faulty f = f

  or_else_faulty : (a b : Kinds) → IsFaulty b → IsFaulty (or_else a b)
  unfolding IsFaulty
  or_else_faulty [] b f = f
  or_else_faulty (k ∷ ks) b f = tt

  first_faulty : (a b : Kinds) → IsFaulty a → IsFaulty (or_else a b)
  unfolding IsFaulty
  first_faulty [] b f = absurd f
  first_faulty (k ∷ ks) b f = tt

  long_help : (h : Held) (v : Option Text) → IsFaulty (long_fault shape.rules false (arg_by_long shape.rules (codes "help")) v h)
  unfolding IsFaulty
  long_help h (Some x) = tt
  long_help h None = or_else_faulty (settle_fault shape.rules false h) (DisplayHelp ∷ []) tt

  long_by : (h : Held) (name : Text) (v : Option Text) → bytes_eq (codes "help") name ≡ false → IsFaulty (long_fault shape.rules false (arg_by_long shape.rules name) v h)
  unfolding IsFaulty
  long_by h name v e = rw e tt

  -- a word `--name` or `--name=value`
  long_faulty : (h : Held) (name : Text) (v : Option Text) → IsFaulty (long_fault shape.rules false (arg_by_long shape.rules name) v h)
  long_faulty h name v = elim (cases_Bool (bytes_eq (codes "help") name)) [
    | inl is ↦ subst (λ (l : Text). IsFaulty (long_fault shape.rules false (arg_by_long shape.rules l) v h)) (is_same (codes "help") name is) (long_help h v)
    | inr other ↦ long_by h name v other
  ]

  short_help : (h : Held) (rest : Text) (next : Held → Kinds) → IsFaulty (short_fault shape.rules false (arg_by_short shape.rules 104) rest h next)
  unfolding IsFaulty
  short_help h rest next = first_faulty (or_else (settle_fault shape.rules false h) (DisplayHelp ∷ [])) (next _) (or_else_faulty (settle_fault shape.rules false h) (DisplayHelp ∷ []) tt)

  short_by : (h : Held) (x : ℕ) (rest : Text) (next : Held → Kinds) → (104 == x) ≡ false → IsFaulty (short_fault shape.rules false (arg_by_short shape.rules x) rest h next)
  unfolding IsFaulty
  short_by h x rest next e = rw e tt

  -- a word `-abc`
  short_faulty : (h : Held) (x : ℕ) (rest : Text) (next : Held → Kinds) → IsFaulty (short_fault shape.rules false (arg_by_short shape.rules x) rest h next)
  short_faulty h x rest next = elim (cases_Bool (104 == x)) [
    | inl is ↦ subst (λ (y : ℕ). IsFaulty (short_fault shape.rules false (arg_by_short shape.rules y) rest h next)) (eqb-true 104 x is) (short_help h rest next)
    | inr other ↦ short_by h x rest next other
  ]

  bundle_faulty : (h : Held) (y : ℕ) (ys : Text) (x : ℕ) → h.skip ≡ 0 → slice_get (chars (y ∷ ys)) 0 ≡ Some x → IsFaulty (bundle_fault shape.rules false (y ∷ ys) h)
  unfolding flags_fault
  bundle_faulty h y ys x none get = rw (none, get) (short_faulty _ x _ _)

  -- ---- words before the first `--`

  abbrev hold : List Row → Option (Text × List Text) → Held
  hold rows pending = record { rows = rows; pending = pending; skip = 0 }

  -- the word is a value wherever it stands
  pub record IsValue (word : Text) : Type 0 where
    met : (rows : List Row) (pending : Option (Text × List Text)) (position : ℕ) → word_met shape.rules [] false idle position word (hold rows pending) ≡ (hold rows pending, value)
    passes : (rows : List Row) (pending : Option (Text × List Text)) → word_fault shape [] false idle word (hold rows pending) ≡ []

  -- the word is a flag, which is refused wherever it stands
  pub record IsFlag (word : Text) : Type 0 where
    rest : Text
    dashed : word ≡ 45 ∷ rest
    refused : (rows : List Row) (pending : Option (Text × List Text)) → IsFaulty (word_fault shape [] false idle word (hold rows pending))

  long_dashed : (word : Text) (p : Text × Option Text) → long_of word ≡ Some p → (xs : Text) × (word ≡ 45 ∷ xs)
  long_dashed [] p e = cc
  long_dashed (x ∷ xs) p e = elim (cases_Bool (x == 45)) [
    | inl is ↦ (xs, ap (λ (y : ℕ). y ∷ xs) (eqb-true x 45 is))
    | inr other ↦ let none = rw other at e in cc
  ]

  short_dashed : (word : Text) (flags : Text) → short_of word ≡ Some flags → (xs : Text) × (word ≡ 45 ∷ xs)
  short_dashed [] flags e = cc
  short_dashed (x ∷ xs) flags e = elim (cases_Bool (x == 45)) [
    | inl is ↦ (xs, ap (λ (y : ℕ). y ∷ xs) (eqb-true x 45 is))
    | inr other ↦ let none = rw other at e in cc
  ]

  module _ (word : Text) (e : bytes_eq word (codes "--") ≡ false) where
    plain : long_of word ≡ None → short_of word ≡ None → IsValue word
    plain l s = record { met = λ rows pending position. rw (e, l, s) refl; passes = λ rows pending. rw (e, l, s) refl }

    no_flags : long_of word ≡ None → short_of word ≡ Some [] → IsValue word
    unfolding bundle_met flags_fault
    no_flags l s = record { met = λ rows pending position. rw (e, l, s) refl; passes = λ rows pending. rw (e, l, s) refl }

    no_chars : (y : ℕ) (ys : Text) → long_of word ≡ None → short_of word ≡ Some (y ∷ ys) → slice_get (chars (y ∷ ys)) 0 ≡ None → IsValue word
    unfolding bundle_met flags_fault
    no_chars y ys l s get = record { met = λ rows pending position. rw (e, l, s, get) refl; passes = λ rows pending. rw (e, l, s, get) refl }

    long_flag : (p : Text × Option Text) → long_of word ≡ Some p → IsFlag word
    long_flag p l = let d = long_dashed word p l in record { rest = d.0; dashed = d.1; refused = λ rows pending. rw (e, l) (long_faulty (hold rows pending) p.0 p.1) }

    short_flag : (y : ℕ) (ys : Text) (x : ℕ) → long_of word ≡ None → short_of word ≡ Some (y ∷ ys) → slice_get (chars (y ∷ ys)) 0 ≡ Some x → IsFlag word
    short_flag y ys x l s get = let d = short_dashed word (y ∷ ys) s in record { rest = d.0; dashed = d.1; refused = λ rows pending. rw (e, l, s) (bundle_faulty (hold rows pending) y ys x refl get) }

    by_char : (y : ℕ) (ys : Text) → long_of word ≡ None → short_of word ≡ Some (y ∷ ys) → (o : Option ℕ) → slice_get (chars (y ∷ ys)) 0 ≡ o → IsValue word ⊎ IsFlag word
    by_char y ys l s None get = inl (no_chars y ys l s get)
    by_char y ys l s (Some x) get = inr (short_flag y ys x l s get)

    by_short : long_of word ≡ None → (o : Option Text) → short_of word ≡ o → IsValue word ⊎ IsFlag word
    by_short l None s = inl (plain l s)
    by_short l (Some []) s = inl (no_flags l s)
    by_short l (Some (y ∷ ys)) s = by_char y ys l s (slice_get (chars (y ∷ ys)) 0) refl

    by_long : (o : Option (Text × Option Text)) → long_of word ≡ o → IsValue word ⊎ IsFlag word
    by_long None l = by_short l (short_of word) refl
    by_long (Some p) l = inr (long_flag p l)

    value_or_flag : IsValue word ⊎ IsFlag word
    value_or_flag = by_long (long_of word) refl

  -- ---- values and flags at each place

  module _ (word : Text) (is : IsValue word) where
    first_value : (step (none_yet false) word ≡ one_held false word) × (fault_at (none_yet false) word ≡ [])
    unfolding walked
    first_value = (ap (λ m. after_step shape.rules word (none_yet false) m.0 m.1) (is.met [] None 1), rw (is.passes [] None, is.met [] None 1) refl)

    second_value : (c : Text) → (step (one_held false c) word ≡ two_held false c word) × (fault_at (one_held false c) word ≡ fault_at (one_held true c) word)
    unfolding walked
    second_value c =
        let h = (one_held false c).held in
        (ap (λ m. after_step shape.rules word (one_held false c) m.0 m.1) (is.met h.rows h.pending 2), rw (is.passes h.rows h.pending, is.met h.rows h.pending 2) refl)

    third_value : (c n : Text) → fault_at (two_held false c n) word ≡ fault_at (two_held true c n) word
    third_value c n = let h = (two_held false c n).held in rw (is.passes h.rows h.pending, is.met h.rows h.pending 3) refl

  module _ (word : Text) (is : IsFlag word) where
    first_flag : IsFaulty (fault_at (none_yet false) word)
    first_flag = first_faulty _ _ (is.refused [] None)

    second_flag : (c : Text) → IsFaulty (fault_at (one_held false c) word)
    second_flag c = first_faulty _ _ (is.refused [] (Some (codes "command", c ∷ [])))

    third_flag : (c n : Text) → IsFaulty (fault_at (two_held false c n) word)
    third_flag c n = first_faulty _ _ (is.refused (found_row c ∷ []) (Some (codes "n", n ∷ [])))

  -- ---- all the words

  abbrev rows_at : Walk → List Text → List Row
  rows_at w words = finished shape.rules (fold step w words).held

  -- the parse of the rest of the words comes to this answer, or fails where there is none
  abbrev Right : Walk → List Text → Option Command → Type 0
  Right w words answer = ((tail_fault w words ≡ []) × (chosen (rows_at w words) ≡ answer)) ⊎ (IsFaulty (tail_fault w words) × (answer ≡ None))

  abbrev After : List Text → Option Command → Walk → Kinds → Type 0
  After words answer next fault = ((or_else (or_else fault (walk_fault shape [] next words)) (end_fault (fold step next words).held) ≡ []) × (chosen (rows_at next words) ≡ answer))
      ⊎ (IsFaulty (or_else (or_else fault (walk_fault shape [] next words)) (end_fault (fold step next words).held)) × (answer ≡ None))

  stepped : (w next : Walk) (word : Text) (words : List Text) (answer : Option Command) → step w word ≡ next → fault_at w word ≡ [] → Right next words answer → Right w (word ∷ words) answer
  unfolding walk_fault
  stepped w next word words answer to none right =
      subst (λ (n : Walk). After words answer n (fault_at w word)) (sym to) (subst (λ (f : Kinds). After words answer next f) (sym none) right)

  failed : (w : Walk) (word : Text) (words : List Text) (answer : Option Command) → IsFaulty (fault_at w word) → answer ≡ None → Right w (word ∷ words) answer
  unfolding walk_fault
  failed w word words answer f is = inr (first_faulty _ _ (first_faulty _ _ f), is)

  module _ (names : (text : Text) → accepts false q text ≡ is_named text) where
    named : (c : Text) → accepts false q c ≡ false → is_named c ≡ false
    named c e = sym (names c) ∙ e

    third_refused : (c n word : Text) → bytes_eq word (codes "--") ≡ false → IsFaulty (fault_at (two_held false c n) word)
    third_refused c n word e = elim (value_or_flag word e) [
      | inl v ↦ subst IsFaulty (sym (third_value word v c n)) (third_trailing c n word)
      | inr f ↦ third_flag word f c n
    ]

    -- the command's word is one that is let through
    two : (t : Bool) (c n : Text) (words : List Text) → Right (two_held t c n) words (command_of_values (c ∷ n ∷ left_values t words))
    unfolding walk_fault
    two true c n [] = inl (two_end true c n, refl)
    two false c n [] = inl (two_end false c n, refl)
    two true c n (word ∷ words) = failed (two_held true c n) word words None (third_trailing c n word) refl
    two false c n (word ∷ words) = elim (cases_Bool (bytes_eq word (codes "--"))) [
      | inl is ↦ let d = third_dashes word is c n in subst (λ (l : List Text). Right (two_held false c n) (word ∷ words) (command_of_values (c ∷ n ∷ l))) (sym (dashes_left word words is)) (stepped (two_held false c n) (two_held true c n) word words _ d.0 d.1 (two true c n words))
      | inr other ↦ subst (λ (l : List Text). Right (two_held false c n) (word ∷ words) (command_of_values (c ∷ n ∷ l))) (sym (value_left word words other)) (failed (two_held false c n) word words _ (third_refused c n word other) refl)
    ]

    second_trails : (c word : Text) (words : List Text) → Right (one_held true c) (word ∷ words) (command_of_values (c ∷ word ∷ words))
    second_trails c word words = elim (cases_Bool (accepts false q c)) [
      | inl is ↦ stepped (one_held true c) (two_held true c word) word words _ (second_trailing c word) (second_passes c word is) (two true c word words)
      | inr other ↦ failed (one_held true c) word words _ (second_fails c word other) (unnamed c (word ∷ words) (named c other))
    ]

    second_word : (c word : Text) (words : List Text) → IsValue word ⊎ IsFlag word → Right (one_held false c) (word ∷ words) (command_of_values (c ∷ word ∷ without_dashes words))
    second_word c word words (inl v) =
        let s = second_value word v c in
        elim (cases_Bool (accepts false q c)) [
          | inl is ↦ stepped (one_held false c) (two_held false c word) word words _ s.0 (s.1 ∙ second_passes c word is) (two false c word words)
          | inr other ↦ failed (one_held false c) word words _ (subst IsFaulty (sym s.1) (second_fails c word other)) (unnamed c (word ∷ without_dashes words) (named c other))
        ]
    second_word c word words (inr f) = failed (one_held false c) word words _ (second_flag word f c) (subst (λ (l : Text). command_of_values (c ∷ l ∷ without_dashes words) ≡ None) (sym f.dashed) (dashed_second c f.rest (without_dashes words)))

    one : (t : Bool) (c : Text) (words : List Text) → Right (one_held t c) words (command_of_values (c ∷ left_values t words))
    unfolding walk_fault
    one true c [] = elim (cases_Bool (accepts false q c)) [
      | inl is ↦ inl (one_end true c is, refl)
      | inr other ↦ inr (one_end_refused true c other, unnamed c [] (named c other))
    ]
    one false c [] = elim (cases_Bool (accepts false q c)) [
      | inl is ↦ inl (one_end false c is, refl)
      | inr other ↦ inr (one_end_refused false c other, unnamed c [] (named c other))
    ]
    one true c (word ∷ words) = second_trails c word words
    one false c (word ∷ words) = elim (cases_Bool (bytes_eq word (codes "--"))) [
      | inl is ↦ let d = second_dashes word is c in subst (λ (l : List Text). Right (one_held false c) (word ∷ words) (command_of_values (c ∷ l))) (sym (dashes_left word words is)) (stepped (one_held false c) (one_held true c) word words _ d.0 d.1 (one true c words))
      | inr other ↦ subst (λ (l : List Text). Right (one_held false c) (word ∷ words) (command_of_values (c ∷ l))) (sym (value_left word words other)) (second_word c word words (value_or_flag word other))
    ]

    first : (word : Text) (words : List Text) → IsValue word ⊎ IsFlag word → Right (none_yet false) (word ∷ words) (command_of_values (word ∷ without_dashes words))
    first word words (inl v) = let s = first_value word v in stepped (none_yet false) (one_held false word) word words _ s.0 s.1 (one false word words)
    first word words (inr f) = failed (none_yet false) word words _ (first_flag word f) (subst (λ (l : Text). command_of_values (l ∷ without_dashes words) ≡ None) (sym f.dashed) (unnamed (45 ∷ f.rest) (without_dashes words) (dashed_unnamed f.rest)))

    none : (t : Bool) (words : List Text) → Right (none_yet t) words (command_of_values (left_values t words))
    unfolding walk_fault
    none true [] = inr (none_end true, refl)
    none false [] = inr (none_end false, refl)
    none true (word ∷ words) = let s = first_trailing word in stepped (none_yet true) (one_held true word) word words _ s.0 s.1 (one true word words)
    none false (word ∷ words) = elim (cases_Bool (bytes_eq word (codes "--"))) [
      | inl is ↦ let d = first_dashes word is in subst (λ (l : List Text). Right (none_yet false) (word ∷ words) (command_of_values l)) (sym (dashes_left word words is)) (stepped (none_yet false) (none_yet true) word words _ d.0 d.1 (none true words))
      | inr other ↦ subst (λ (l : List Text). Right (none_yet false) (word ∷ words) (command_of_values l)) (sym (value_left word words other)) (first word words (value_or_flag word other))
    ]

    -- a parse of the words gives the command that they ask for, or fails where there is none
    pub parses : (words : List Text) → ((fault_of elk words ≡ []) × (chosen (matches_of elk words) ≡ asked words)) ⊎ (IsFaulty (fault_of elk words) × (asked words ≡ None))
    parses words = subst (λ (f : Kinds). ((f ≡ []) × (chosen (matches_of elk words) ≡ asked words)) ⊎ (IsFaulty f × (asked words ≡ None))) (sym (whole words)) (none false words)

    pub answers_ok : (r : Result ArgMatches Error) (words : List Text) → IfOk r (HasMatchesOf elk words) → FailsBy (fault_of elk words) r → IfOk r (λ m. chosen (rows_of (found_of m)) ≡ asked words)
    answers_ok (Err e) words matches fails = tt
    answers_ok (Ok m) words matches fails = elim (parses words) [
      | inl found ↦ subst (λ (rows : List Row). chosen rows ≡ asked words) (sym (matches refl).0) found.1
      | inr faulty ↦ absurd (not_faulty (subst IsFaulty fails faulty.0))
    ]

    pub answers_err : (r : Result ArgMatches Error) (words : List Text) → FailsBy (fault_of elk words) r → IfErr r (λ e. (kind_of e ≡ OutOfMemory) ⊎ (asked words ≡ None))
    answers_err (Ok m) words fails = tt
    answers_err (Err e) words (inl memory) = inl memory
    answers_err (Err e) words (inr among) = elim (parses words) [
      | inl found ↦ absurd (subst (IsAmong (kind_of e)) found.0 among)
      | inr faulty ↦ inr faulty.1
    ]

-- a list of names
pub any_name : (names : List (Bor Text)) (text : Text) → list_any (λ name. same_text false name.now text) names ≡ list_any (λ name. bytes_eq name text) (map (λ s. s.now) names)
any_name [] text = refl
any_name (name ∷ names) text = ap (λ b. bytes_eq name.now text || b) (any_name names text)
