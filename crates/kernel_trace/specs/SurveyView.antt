-- What contracts see of a first look over a text. Private: the contracts of this crate's own
-- functions.
use Rattle.std.specs.Option.{option_map}
use Rattle.kernel_trace.specs.StampView.{time_of}
use Rattle.kernel_trace.specs.Survey.{SurveyData, SightingData}
use Rattle.kernel_trace.specs.declared.survey.Survey.{Survey}
use Rattle.kernel_trace.specs.declared.survey.Sightings.{Sightings}

-- what is said of the text
abbrev pub look_of : Survey → SurveyData
look_of survey = record { waking = survey.waking; whole = option_map time_of survey.whole }

-- what was seen of its lines
abbrev pub sightings_of : Sightings → SightingData
sightings_of sightings =
    record { processors = sightings.processors.keys; time = option_map time_of sightings.time }
