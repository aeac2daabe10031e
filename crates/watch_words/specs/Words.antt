-- The words of the command line: which word is which option, and what each makes of the settings.
use Rattle.std.specs.Prelude.{Bool, true, false, cond, List, [], ◌∷◌, ℕ, eqb, ltb, length, get_or, Option, Some, None}
use Rattle.laws.specs.Texts.{ascii, same_bytes}
use Rattle.watch_levels.specs.declared.Level.{Level}
use Rattle.watch_levels.specs.Levels.{level, level_of}
use Rattle.watch_lengths.specs.declared.Lengths.{Lengths}
use Rattle.watch_lengths.specs.Lengths.{lengths_of}
use Rattle.watch_numbers.specs.Numbers.{channel_of, span_of}
use Rattle.watch_words.specs.declared.Word.{Word}
use Rattle.watch_words.specs.declared.Word.TheVariants.{Help, Csv, Reference, Log, Linear, Valued, Unknown, File}
use Rattle.watch_words.specs.declared.Value.{Value}
use Rattle.watch_words.specs.declared.Value.TheVariants as V
use Rattle.watch_words.specs.declared.Fault.{Fault}
use Rattle.watch_words.specs.declared.Fault.TheVariants as F
use Rattle.watch_words.specs.declared.Settings.{Settings}

-- the options by their names
abbrev pub options : List (List ℕ × Word)
options =
    (ascii "--help", Help)
    ∷ (ascii "-h", Help)
    ∷ (ascii "--csv", Csv)
    ∷ (ascii "--reference", Reference)
    ∷ (ascii "--log", Log)
    ∷ (ascii "--linear", Linear)
    ∷ (ascii "--on", Valued V.On)
    ∷ (ascii "--off", Valued V.Off)
    ∷ (ascii "--early", Valued V.Early)
    ∷ (ascii "--lengths", Valued V.Lengths)
    ∷ (ascii "--explain", Valued V.Explain)
    ∷ (ascii "--worst", Valued V.Worst)
    ∷ []

unfoldable pub named : List ℕ → List (List ℕ × Word) → Word
named w [] = Unknown
named w (o ∷ os) = cond (same_bytes w o.0) o.1 (named w os)

-- a word of two bytes or more that begins with -, which is 45, is an option
unfoldable pub word_of : List ℕ → Word
word_of w = cond (ltb (length w) 2) File (cond (eqb (get_or w 0 0) 45) (named w options) File)

-- 40 ms, 200 ms and 1 s
abbrev pub default_lengths : Lengths
default_lengths = record { list = 15 ∷ 75 ∷ 375 ∷ 0 ∷ 0 ∷ 0 ∷ 0 ∷ 0 ∷ []; count = 3 }

-- on at 9 dB, off at 6 dB, in eighths; no early level; three lengths
abbrev pub defaults : Settings
defaults =
    record {
      on = level false 72;
      off = level false 48;
      early = None;
      lengths = default_lengths;
      is_csv = false;
      has_reference = false;
      is_help = false;
      is_log = false;
      is_linear = false;
      file = None;
      explained = None;
      worst = None;
      due = None;
      fault = None;
    }

-- settings with other values: none is due any more
abbrev pub valued : Settings → Level → Level → Option Level → Lengths → Settings
valued s a b e n =
    record {
      on = a;
      off = b;
      early = e;
      lengths = n;
      is_csv = s.is_csv;
      has_reference = s.has_reference;
      is_help = s.is_help;
      is_log = s.is_log;
      is_linear = s.is_linear;
      file = s.file;
      explained = s.explained;
      worst = s.worst;
      due = None;
      fault = s.fault;
    }

-- settings that ask for other things
abbrev pub asking : Settings → Bool → Bool → Bool → Bool → Bool → Option ℕ → Settings
asking s csv reference help log linear i =
    record {
      on = s.on;
      off = s.off;
      early = s.early;
      lengths = s.lengths;
      is_csv = csv;
      has_reference = reference;
      is_help = help;
      is_log = log;
      is_linear = linear;
      file = i;
      explained = s.explained;
      worst = s.worst;
      due = s.due;
      fault = s.fault;
    }

-- settings of which a word says what is due, or is wrong
abbrev pub noted : Settings → Option (Value × ℕ) → Option (Fault × ℕ) → Settings
noted s d f =
    record {
      on = s.on;
      off = s.off;
      early = s.early;
      lengths = s.lengths;
      is_csv = s.is_csv;
      has_reference = s.has_reference;
      is_help = s.is_help;
      is_log = s.is_log;
      is_linear = s.is_linear;
      file = s.file;
      explained = s.explained;
      worst = s.worst;
      due = d;
      fault = f;
    }

-- settings by which a channel's floors are explained, and the worst floor of so many slow hops is kept
abbrev pub telling : Settings → Option ℕ → Option ℕ → Settings
telling s v w =
    record {
      on = s.on;
      off = s.off;
      early = s.early;
      lengths = s.lengths;
      is_csv = s.is_csv;
      has_reference = s.has_reference;
      is_help = s.is_help;
      is_log = s.is_log;
      is_linear = s.is_linear;
      file = s.file;
      explained = v;
      worst = w;
      due = None;
      fault = s.fault;
    }

abbrev pub explaining : Settings → ℕ → Settings
explaining s v = telling s (Some v) s.worst

abbrev pub spanning : Settings → ℕ → Settings
spanning s w = telling s s.explained (Some w)

-- word i has this fault
abbrev pub faulty : Settings → Fault → ℕ → Settings
faulty s f i = noted s s.due (Some (f, i))

-- word i is an option whose value is due
abbrev pub awaiting : Settings → Value → ℕ → Settings
awaiting s v i = noted s (Some (v, i)) s.fault

-- what is to be printed
abbrev pub printing : Settings → Bool → Bool → Bool → Settings
printing s csv reference help = asking s csv reference help s.is_log s.is_linear s.file

-- the file is word i; word 0 is the program's own name, and names none
abbrev pub filed : Settings → ℕ → Settings
filed s i = asking s s.is_csv s.has_reference s.is_help s.is_log s.is_linear (cond (eqb i 0) None (Some i))

-- what is watched is a hop log
abbrev pub logged : Settings → Settings
logged s = asking s s.is_csv s.has_reference s.is_help true s.is_linear s.file

-- the dB are worked out from the powers
abbrev pub linearly : Settings → Settings
linearly s = asking s s.is_csv s.has_reference s.is_help s.is_log true s.file

abbrev pub levelled : Settings → Level → Level → Option Level → Settings
levelled s a b e = valued s a b e s.lengths

abbrev pub counting : Settings → Lengths → Settings
counting s n = valued s s.on s.off s.early n

-- a second file is a fault
abbrev pub filed_after : Option ℕ → Settings → ℕ → Settings
filed_after None s i = filed s i
filed_after (Some f) s i = faulty s F.SecondFile i

unfoldable pub with_file : Settings → ℕ → Settings
with_file s i = filed_after s.file s i

-- word i where any word may stand
unfoldable pub any_taken : Settings → ℕ → Word → Settings
any_taken s i Help = printing s s.is_csv s.has_reference true
any_taken s i Csv = printing s true s.has_reference s.is_help
any_taken s i Reference = printing s s.is_csv true s.is_help
any_taken s i Log = logged s
any_taken s i Linear = linearly s
any_taken s i (Valued v) = awaiting s v i
any_taken s i Unknown = faulty s F.Unknown i
any_taken s i File = with_file s i

-- what is wrong with a word that is no such value
abbrev pub bad : Value → Fault
bad V.On = F.BadLevel
bad V.Off = F.BadLevel
bad V.Early = F.BadLevel
bad V.Lengths = F.BadLengths
bad V.Explain = F.BadChannel
bad V.Worst = F.BadSpan

-- the settings that a value makes, if there is one
abbrev pub made : {A : Type 0} → (A → Settings) → Option A → Option Settings
made f (Some x) = Some (f x)
made f None = None

-- the settings with the value that a word is, if it is one: a level goes where it is due, an early level may be none
unfoldable pub value_read : Value → Settings → List ℕ → Option Settings
value_read V.On s w = made (λ x. levelled s x s.off s.early) (level_of w)
value_read V.Off s w = made (λ x. levelled s s.on x s.early) (level_of w)
value_read V.Early s w =
    cond (same_bytes w (ascii "none")) (Some (levelled s s.on s.off None)) (made (λ x. levelled s s.on s.off (Some x)) (level_of w))
value_read V.Lengths s w = made (counting s) (lengths_of w)
value_read V.Explain s w = made (explaining s) (channel_of w)
value_read V.Worst s w = made (spanning s) (span_of w)

abbrev pub or_faulty : Settings → Fault → ℕ → Option Settings → Settings
or_faulty s f i (Some t) = t
or_faulty s f i None = faulty s f i

unfoldable pub value_taken : Value → Settings → ℕ → List ℕ → Settings
value_taken v s i w = or_faulty s (bad v) i (value_read v s w)

-- the settings after word i. After a fault nothing changes any more
abbrev pub taken_when : Option (Fault × ℕ) → Option (Value × ℕ) → Settings → ℕ → List ℕ → Settings
taken_when (Some f) d s i w = s
taken_when None None s i w = any_taken s i (word_of w)
taken_when None (Some d) s i w = value_taken d.0 s i w

unfoldable pub word_taken : Settings → ℕ → List ℕ → Settings
word_taken s i w = taken_when s.fault s.due s i w

-- after the last word an option may still lack its value
abbrev pub ended_when : Option (Fault × ℕ) → Option (Value × ℕ) → Settings → Settings
ended_when None (Some d) s = faulty s F.NoValue d.1
ended_when None None s = s
ended_when (Some f) d s = s

unfoldable pub all_taken : Settings → Settings
all_taken s = ended_when s.fault s.due s
