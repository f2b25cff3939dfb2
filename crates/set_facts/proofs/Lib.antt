mod Places
mod Leads
mod OtherBends
mod SameAttitudes
mod Attitudes
mod LeadSteps
mod SetLaneSteps
mod LaneTables
