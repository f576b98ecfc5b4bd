-- A record as words at fixed places, and the record that words are.
use Rattle.std.specs.Prelude.{Bool, cond, ◌&&◌, List, [], ◌∷◌, ◌++◌, ℕ, ◌+◌, ◌*◌, leb, eqb, length, get_or, drop}
use Rattle.kernel.specs.Lists.{tab, all_of}
use Rattle.records.specs.declared.Freq.{Freq}
use Rattle.records.specs.declared.Freq.TheVariants.{Index, Hz}
use Rattle.records.specs.declared.Form.{Form}
use Rattle.records.specs.declared.Form.TheVariants.{None, Type5, Type29, Flag0, Flag1, FlagPs}
use Rattle.records.specs.declared.Stream.{Stream}
use Rattle.records.specs.declared.Record.{Record}
use Rattle.records.specs.Blank.{no_record}
use Rattle.records.specs.Same.{form_tag, form_freq, form_ps}

-- ---- the places: what a record has once, the layers of 16 programs, and last 16 streams

-- the word of the first numLayer
abbrev pub layers_at : ℕ
layers_at = 10

-- and the first word of the streams
abbrev pub streams_at : ℕ
streams_at = layers_at + 16

-- the words of a stream
abbrev pub stream_size : ℕ
stream_size = 14

-- the words of a record
abbrev pub record_size : ℕ
record_size = streams_at + 16 * stream_size

-- ---- the words of a record

-- 0 for an index, 1 for 24 bits
abbrev pub freq_choice : Freq → ℕ
freq_choice (Index i) = 0
freq_choice (Hz h) = 1

-- the index, or the frequency
abbrev pub freq_number : Freq → ℕ
freq_number (Index i) = i
freq_number (Hz h) = h

-- 4 words: the form's number, its frequency and its PS flag, 0 where it has none
abbrev pub form_words : Form → List ℕ
form_words f = form_tag f ∷ freq_choice (form_freq f) ∷ freq_number (form_freq f) ∷ form_ps f ∷ []

-- 14 words
abbrev pub stream_words : Stream → List ℕ
stream_words s =
    s.config.core
    ∷ freq_choice s.config.freq
    ∷ freq_number s.config.freq
    ∷ s.config.channels
    ∷ s.config.flag
    ∷ s.config.depends
    ∷ s.config.extension
    ∷ (form_words s.config.form ++ (s.kind ∷ s.fullness ∷ s.fixed ∷ []))

-- of several streams
unfoldable pub streams_words : List Stream → List ℕ
streams_words [] = []
streams_words (s ∷ streams) = stream_words s ++ streams_words streams

-- what a record has once
abbrev pub head_words : Record → List ℕ
head_words r =
    r.version
    ∷ r.subversion
    ∷ r.tara
    ∷ r.framing
    ∷ r.subframes
    ∷ r.programs
    ∷ r.other
    ∷ r.bits
    ∷ r.checked
    ∷ r.crc
    ∷ []

-- the words of a record
abbrev pub words_of : Record → List ℕ
words_of r = head_words r ++ (r.layers ++ streams_words r.streams)

-- ---- the record of words

-- a frequency by its choice and its number
abbrev pub freq_from : ℕ → ℕ → Freq
freq_from choice n = cond (eqb choice 0) (Index n) (Hz n)

-- a form by its number, its frequency and its PS flag
abbrev pub form_from : ℕ → Freq → ℕ → Form
form_from tag x ps =
    cond (eqb tag 0) None (cond (eqb tag 1) (Type5 x)
    (cond (eqb tag 2) (Type29 x) (cond (eqb tag 3) Flag0 (cond (eqb tag 4) (Flag1 x) (FlagPs x ps)))))

-- the stream whose words stand first
abbrev pub stream_from : List ℕ → Stream
stream_from w = record {
  config = record {
    core = get_or w 0 0;
    freq = freq_from (get_or w 1 0) (get_or w 2 0);
    channels = get_or w 3 0;
    flag = get_or w 4 0;
    depends = get_or w 5 0;
    extension = get_or w 6 0;
    form = form_from (get_or w 7 0) (freq_from (get_or w 8 0) (get_or w 9 0)) (get_or w 10 0);
  };
  kind = get_or w 11 0;
  fullness = get_or w 12 0;
  fixed = get_or w 13 0;
}

-- the numLayer of 16 programs
abbrev pub layers_from : List ℕ → List ℕ
layers_from w = tab 16 λ p. get_or w (layers_at + p) 0

-- 16 streams
abbrev pub streams_from : List ℕ → List Stream
streams_from w = tab 16 λ i. stream_from (drop (streams_at + stream_size * i) w)

-- the record that words are, whatever they hold behind it
abbrev pub record_from : List ℕ → Record
record_from w = record {
  version = get_or w 0 0;
  subversion = get_or w 1 0;
  tara = get_or w 2 0;
  framing = get_or w 3 0;
  subframes = get_or w 4 0;
  programs = get_or w 5 0;
  other = get_or w 6 0;
  bits = get_or w 7 0;
  checked = get_or w 8 0;
  crc = get_or w 9 0;
  layers = layers_from w;
  streams = streams_from w;
}

-- as many words as a record has are the same in both
unfoldable pub same_words : List ℕ → List ℕ → Bool
same_words a b = all_of record_size λ i. eqb (get_or a i 0) (get_or b i 0)

-- Words are a record's where it has these words. Others, a form of number 6 or a PS flag where there is none, are
-- nobody's and give the blank record.
unfoldable pub record_in : List ℕ → Record
record_in w = cond (leb record_size (length w) && same_words (words_of (record_from w)) w) (record_from w) no_record

-- words lent, after a record is laid in them: too few stay as they were
unfoldable pub laid_in : List ℕ → Record → List ℕ
laid_in w r = cond (leb record_size (length w)) (words_of r ++ drop record_size w) w
