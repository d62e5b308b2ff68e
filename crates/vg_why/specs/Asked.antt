-- What the words of the command line ask for.
use Rattle.std.specs.Prelude.{◌≡◌, ◌<◌, ℕ, Bool, true, false, ◌&&◌, ◌==◌, nat_lt, nat_le, List, [], ◌∷◌, length, slice_index_or, codes, bytes_eq, find, Option, Some, None, option_map, option_and_then, if◌then◌else◌}
use Rattle.std.specs.List.{list_any, list_all}
use Rattle.vg_model.specs.declared.kinds.DropError.{DropError}
use Rattle.vg_model.specs.Errors.{all_errors, error_word}
use Rattle.vg_model.specs.Name.{is_name}
use Rattle.vg_words.specs.Command.{Text, is_plain, number_of}
use Rattle.vg_why.specs.declared.asks.Ask as asks
use Rattle.vg_why.specs.declared.asks.Asked as askeds
use Rattle.vg_why.specs.declared.asks.Asked.TheVariants as variants
use Rattle.vg_why.specs.declared.filters.Filter as filters
use Rattle.vg_why.specs.declared.routes.Route.{Route}
use Rattle.vg_why.specs.Routes.{route_of}

-- which packets are printed: those that meet each condition that is there, and have one of these numbers
pub record Filter : Type 0 where
  pub drop : Option DropError
  pub via : Option Text
  pub route : Option Route
  pub node : Option Text
  pub from : ℕ
  pub to : ℕ

-- what is asked for
pub data Asked : Type 0 where
  -- the ways of the packets of these numbers
  Packets : List ℕ → Asked
  -- the ways of all packets that pass a filter
  All : Filter → Asked
  -- how many packets went which way
  Counts : Asked

-- what is asked for, and the files by their names
pub record Ask : Type 0 where
  pub asked : Asked
  pub capture : Text
  pub script : Text
  pub report : Text

-- the same, as the code has them
abbrev pub filter_shown : filters.Filter → Filter
filter_shown f = record {
  drop = f.drop;
  via = option_map (λ name. name.now) f.via;
  route = f.route;
  node = option_map (λ name. name.now) f.node;
  from = f.from;
  to = f.to;
}

abbrev pub asked_shown : askeds.Asked → Asked
asked_shown (variants.Packets numbers) = Packets numbers.items
asked_shown (variants.All filter) = All (filter_shown filter)
asked_shown variants.Counts = Counts

abbrev pub ask_shown : asks.Ask → Ask
ask_shown ask = record { asked = asked_shown ask.asked; capture = ask.capture.now; script = ask.script.now; report = ask.report.now }

-- ---- words

-- the number of a packet
abbrev pub packet_number : Text → Option ℕ
packet_number word = number_of 0 65535 word

-- the error that a word says
abbrev pub error_named : Text → Option DropError
error_named word = find (λ error. bytes_eq word (error_word error)) all_errors

-- a name that a script may give
abbrev pub name_of : Text → Option Text
name_of word = if is_name word then Some word else None

-- the three files, where there are these names and no others
abbrev pub files_of : Asked → List Text → Option Ask
files_of asked (capture ∷ (script ∷ (report ∷ []))) =
    if is_plain capture && (is_plain script && is_plain report)
    then Some (record { asked = asked; capture = capture; script = script; report = report }) else None
files_of asked names = None

-- a filter that all packets pass
abbrev pub no_filter : Filter
no_filter = record { drop = None; via = None; route = None; node = None; from = 0; to = 65535 }

-- the filter with one more condition, which isn't on routes: a word, and its value
abbrev pub with_other : Filter → (word value : Text) → Option Filter
with_other f word value =
    if bytes_eq word (codes "--drop") then option_map (λ error. record f { drop = Some error }) (error_named value)
    else if bytes_eq word (codes "--via") then option_map (λ name. record f { via = Some name }) (name_of value)
    else if bytes_eq word (codes "--node") then option_map (λ name. record f { node = Some name }) (name_of value)
    else if bytes_eq word (codes "--from") then option_map (λ number. record f { from = number }) (packet_number value)
    else if bytes_eq word (codes "--to") then option_map (λ number. record f { to = number }) (packet_number value)
    else None

-- the filter with the condition on routes
abbrev pub with_route : Filter → Text → Option Filter
with_route f value = option_map (λ route. record f { route = Some route }) (route_of value)

-- the filter with one more condition
abbrev pub with_condition : Filter → (word value : Text) → Option Filter
with_condition f word value = if bytes_eq word (codes "--route") then with_route f value else with_other f word value

-- the words behind `--all`: conditions, each a word and its value, and then the files
abbrev pub all_from : Filter → List Text → Option Ask
all_from f (word ∷ (value ∷ (a ∷ (b ∷ rest)))) = option_and_then (λ g. all_from g (a ∷ (b ∷ rest))) (with_condition f word value)
all_from f names = files_of (All f) names

-- the numbers of packets that words say
abbrev pub numbers_of : List Text → Option (List ℕ)
numbers_of [] = Some []
numbers_of (word ∷ words) = option_and_then (λ number. option_map (λ numbers. number ∷ numbers) (numbers_of words)) (packet_number word)

-- the files, and behind them a number at least
abbrev pub packets_of : List Text → Option Ask
packets_of (capture ∷ (script ∷ (report ∷ (word ∷ words)))) =
    option_and_then (λ numbers. files_of (Packets numbers) (capture ∷ (script ∷ (report ∷ [])))) (numbers_of (word ∷ words))
packets_of words = None

-- what the words ask for
abbrev pub asked : List Text → Option Ask
asked [] = None
asked (word ∷ words) =
    if bytes_eq word (codes "--counts") then files_of Counts words
    else if bytes_eq word (codes "--all") then all_from no_filter words
    else packets_of (word ∷ words)

-- ---- what is asked for

-- a packet of this number is asked for, whatever became of it
abbrev pub is_asked : Asked → ℕ → Bool
is_asked (Packets numbers) number = list_any (λ n. n == number) numbers
is_asked (All f) number = nat_le f.from number && nat_le number f.to
is_asked Counts number = false

-- of each of so many packets whether it is asked for
pub record AreMarks (asked : Asked) (count : ℕ) (marks : List Bool) : Type 0 where
  pub many : length marks ≡ count
  pub each : (number : ℕ) → number < count → slice_index_or marks number false ≡ is_asked asked number

-- the numbers that are asked for are below so many
abbrev pub are_below : Asked → ℕ → Bool
are_below (Packets numbers) count = list_all (λ n. nat_lt n count) numbers
are_below (All f) count = true
are_below Counts count = true
