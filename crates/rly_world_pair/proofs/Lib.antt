mod StationCalls
mod StationAccepted
mod StationSteps
mod StationCrash
mod PairRelays
